-- Bytes that are appended item by item.
use Rattle.std.proofs.Common.{◌≡◌, ℕ, ◌+◌, ◌<◌, ◌≤◌, List, [], ◌∷◌, ◌++◌, length, map, take, get_or, Result, Ok, Err, OnOk, sym, ap, subst, ◌∙◌, append_assoc}
use Rattle.std.specs.List.{AllByRecursion, flat_map}
use Rattle.std.proofs.lemmas.List.{map-append, take_all, take_more}
use Rattle.pg_model.proofs.LawsLists.{all-append}
use Rattle.pg_part.proofs.Handed.{flat_map-push}

-- six parts, one after another
pub six_parts : {X E : Type 0} (r : Result X E) (old one two three four five six a b c d e f : List ℕ) → a ≡ old ++ one → b ≡ a ++ two
    → c ≡ b ++ three → d ≡ c ++ four → e ≡ d ++ five → OnOk r (f ≡ e ++ six) → OnOk r (f ≡ old ++ (one ++ (two ++ (three ++ (four ++ (five ++ six))))))
six_parts (Err x) old one two three four five six a b c d e f p q r s t u = tt
six_parts (Ok x) old one two three four five six a b c d e f p q r s t u =
    u ∙ ap (λ l. l ++ six) (t ∙ ap (λ l. l ++ five) (s ∙ ap (λ l. l ++ four) (r ∙ ap (λ l. l ++ three) (q ∙ ap (λ l. l ++ two) p))))
    ∙ append_assoc ((((old ++ one) ++ two) ++ three) ++ four) five six
    ∙ append_assoc (((old ++ one) ++ two) ++ three) four (five ++ six)
    ∙ append_assoc ((old ++ one) ++ two) three (four ++ (five ++ six))
    ∙ append_assoc (old ++ one) two (three ++ (four ++ (five ++ six)))
    ∙ append_assoc old one (two ++ (three ++ (four ++ (five ++ six))))

-- what was appended, seen as the coding of another list
pub parts_are : {X E L : Type 0} (r : Result X E) (coding : L → List ℕ) (old new : List ℕ) (xs ys : L) → OnOk r (new ≡ old ++ coding xs) → xs ≡ ys
    → OnOk r (new ≡ old ++ coding ys)
parts_are (Err x) coding old new xs ys stated same = tt
parts_are (Ok x) coding old new xs ys stated same = stated ∙ ap (λ l. old ++ coding l) same

-- one item more, behind what stands there
module _ {X : Type 0} (xs : List X) (i : ℕ) (x : X) (within : i < length xs) (is : x ≡ get_or xs i x) where
  taken : take (i + 1) xs ≡ take i xs ++ x ∷ []
  taken = take_more xs i x within ∙ ap (λ (y : X). take i xs ++ y ∷ []) (sym is)

  pub item_more : {Y : Type 0} (coding : X → List Y) (old before after : List Y) → before ≡ old ++ flat_map coding (take i xs)
      → after ≡ before ++ coding x → after ≡ old ++ flat_map coding (take (i + 1) xs)
  item_more coding old before after so_far more =
      more ∙ ap (λ l. l ++ coding x) so_far ∙ append_assoc old (flat_map coding (take i xs)) (coding x)
      ∙ ap (λ l. old ++ l) (sym (ap (flat_map coding) taken ∙ flat_map-push coding (take i xs) x))

  -- behind their count
  pub counted_more : {Y : Type 0} (coding : X → List Y) (old count before after : List Y)
      → before ≡ old ++ (count ++ flat_map coding (take i xs)) → after ≡ before ++ coding x
      → after ≡ old ++ (count ++ flat_map coding (take (i + 1) xs))
  counted_more coding old count before after so_far more =
      item_more coding (old ++ count) before after (so_far ∙ sym (append_assoc old count (flat_map coding (take i xs)))) more
      ∙ append_assoc old count (flat_map coding (take (i + 1) xs))

  pub all_more : (P : X → Type 0) → AllByRecursion P (take i xs) → P x → AllByRecursion P (take (i + 1) xs)
  all_more P so_far this = subst (λ (l : List X). AllByRecursion P l) (sym taken) (all-append P (take i xs) (x ∷ []) so_far (this, tt))

  pub mapped_more : {Y : Type 0} (f : X → Y) (old before after : List Y) → before ≡ old ++ map f (take i xs)
      → after ≡ before ++ f x ∷ [] → after ≡ old ++ map f (take (i + 1) xs)
  mapped_more f old before after so_far more =
      more ∙ ap (λ l. l ++ f x ∷ []) so_far ∙ append_assoc old (map f (take i xs)) (f x ∷ [])
      ∙ ap (λ l. old ++ l) (sym (ap (map f) taken ∙ map-append f (take i xs) (x ∷ [])))

-- at the end these are all
pub counted_all : {X Y : Type 0} (xs : List X) (i : ℕ) (coding : X → List Y) (old count now : List Y) → length xs ≤ i
    → now ≡ old ++ (count ++ flat_map coding (take i xs)) → now ≡ old ++ (count ++ flat_map coding xs)
counted_all xs i coding old count now end so_far = so_far ∙ ap (λ l. old ++ (count ++ flat_map coding l)) (take_all i xs end)

pub all_all : {X : Type 0} (xs : List X) (i : ℕ) (P : X → Type 0) → length xs ≤ i → AllByRecursion P (take i xs) → AllByRecursion P xs
all_all {X} xs i P end so_far = subst (λ (l : List X). AllByRecursion P l) (take_all i xs end) so_far
