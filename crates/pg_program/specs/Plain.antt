-- Plain values: which they are, their texts, and that only identical ones are equal.
use Rattle.std.specs.Prelude.{◌≡◌, ℕ, ◌<◌, ◌^◌, [], ◌∷◌, ◌++◌, ℤ, Bool, true, false, cond, ◌&&◌, List, length, IsTrue}
use Rattle.std.specs.Prelude.{FitsSigned, codes, ◌==◌, refl}
use Rattle.std.specs.Int.{w64}
use Rattle.std.specs.List.{AllByRecursion, join_by}
use Rattle.std.specs.Ordering.{int_eq}
use Rattle.std.specs.Cmp.{signed_Decides, unsigned_Decides}
use Rattle.std.specs.Cmp.Lexicographic.{pointwise}
use Rattle.std.proofs.Common.{ap, sym, ◌∙◌, true≢false}

-- the numbers of 64 bits without a sign
abbrev pub is_natural : ℕ → Type 0
is_natural n = n < 2 ^ 64

-- a pair of values
abbrev pub are_both : {A B : Type 0} → (A → Type 0) → (B → Type 0) → A × B → Type 0
are_both is_first is_second p = is_first p.0 × is_second p.1

-- the numbers of vertices
abbrev pub is_id : ℕ → Type 0
is_id n = n < 2 ^ 63

-- the numbers of places
abbrev pub is_byte : ℕ → Type 0
is_byte n = n < 2 ^ 8

-- a list of values, which has no more of them than a number of 64 bits says
abbrev pub are_listed : {A : Type 0} → (A → Type 0) → List A → Type 0
are_listed is_item xs = (length xs < 2 ^ 64) × AllByRecursion is_item xs

-- `true` or `false`
abbrev pub bool_text : Bool → List ℕ
bool_text b = cond b (codes "true") (codes "false")

-- `(a b)`
abbrev pub pair_text : {A B : Type 0} → (A → List ℕ) → (B → List ℕ) → A × B → List ℕ
pair_text first second p = codes "(" ++ first p.0 ++ codes " " ++ second p.1 ++ codes ")"

-- `[a b c]`, and `[]` of nothing
abbrev pub list_text : {A : Type 0} → (A → List ℕ) → List A → List ℕ
list_text item xs = codes "[" ++ join_by item (codes " ") xs ++ codes "]"

pub i64_exact : (x y : ℤ) → FitsSigned w64 x → FitsSigned w64 y → IsTrue (int_eq x y) → x ≡ y
i64_exact x y _ _ equal = (signed_Decides x y).0 equal

pub u64_exact : (x y : ℕ) → is_natural x → is_natural y → IsTrue (x == y) → x ≡ y
u64_exact x y _ _ equal = (unsigned_Decides x y).0 equal

pub id_exact : (x y : ℕ) → is_id x → is_id y → IsTrue (x == y) → x ≡ y
id_exact x y _ _ equal = (unsigned_Decides x y).0 equal

pub byte_exact : (x y : ℕ) → is_byte x → is_byte y → IsTrue (x == y) → x ≡ y
byte_exact x y _ _ equal = (unsigned_Decides x y).0 equal

both_true : (a b : Bool) → IsTrue (a && b) → IsTrue a × IsTrue b
both_true true b h = (refl, h)
both_true false b h = absurd (true≢false (sym h))

-- of two pairs, and of two lists, whose parts differ only if `==` says so
module _ {A : Type 0} {is_value : A → Type 0} {eq : A → A → Bool}
    (exact : (x y : A) → is_value x → is_value y → IsTrue (eq x y) → x ≡ y) where
  pub pair_exact : {B : Type 0} {is_second : B → Type 0} {eq_second : B → B → Bool}
      → ((x y : B) → is_second x → is_second y → IsTrue (eq_second x y) → x ≡ y) → (x y : A × B)
      → are_both is_value is_second x
      → are_both is_value is_second y → IsTrue (eq x.0 y.0 && eq_second x.1 y.1) → x ≡ y
  pair_exact {B} {is_second} {eq_second} second x y p q equal =
      let parts : IsTrue (eq x.0 y.0) × IsTrue (eq_second x.1 y.1) = both_true (eq x.0 y.0) (eq_second x.1 y.1) equal in
      ap (λ (a : A). (a, x.1)) (exact x.0 y.0 p.0 q.0 parts.0)
      ∙ ap (λ (b : B). (y.0, b)) (second x.1 y.1 p.1 q.1 parts.1)

  items_exact : (xs ys : List A) → AllByRecursion is_value xs → AllByRecursion is_value ys
      → IsTrue (pointwise eq xs ys) → xs ≡ ys
  items_exact [] [] p q equal = refl
  items_exact [] (y ∷ ys) p q equal = absurd (true≢false (sym equal))
  items_exact (x ∷ xs) [] p q equal = absurd (true≢false (sym equal))
  items_exact (x ∷ xs) (y ∷ ys) p q equal =
      let parts : IsTrue (eq x y) × IsTrue (pointwise eq xs ys) = both_true (eq x y) (pointwise eq xs ys) equal in
      ap (λ (a : A). a ∷ xs) (exact x y p.0 q.0 parts.0)
      ∙ ap (λ (l : List A). y ∷ l) (items_exact xs ys p.1 q.1 parts.1)

  pub list_exact : (xs ys : List A) → are_listed is_value xs → are_listed is_value ys
      → IsTrue (pointwise eq xs ys) → xs ≡ ys
  list_exact xs ys p q equal = items_exact xs ys p.1 q.1 equal
