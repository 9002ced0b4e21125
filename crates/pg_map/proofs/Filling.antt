-- Steps of loops that go over a list and fill another.
use Rattle.std.proofs.Common.{◌≡◌, ℕ, ◌+◌, ◌<◌, Bool, List, [], ◌∷◌, ◌++◌, length, map, get_or, take, sym, ap, ◌∙◌, subst, append_assoc}
use Rattle.std.specs.List.{AllByRecursion, filter, flat_map}
use Rattle.std.proofs.lemmas.Grind.{flat_map-append}
use Rattle.std.proofs.lemmas.List.{append-nil, map-append, take_more}
use Rattle.std.proofs.lemmas.List.Elements.{All-from_recursion, All-more, All-push, filter-append, recursion_from_All}

module _ {X Y : Type 0} (F : List X → List Y) (joins : (xs ys : List X) → F (xs ++ ys) ≡ F xs ++ F ys) where
  -- one more element, of a list that is made part by part and comes after what was there
  pub joined_after : (start : List Y) (xs : List X) (i : ℕ) {x : X} {before after : List Y} → i < length xs → x ≡ get_or xs i x
      → before ≡ start ++ F (take i xs) → after ≡ before ++ F (x ∷ []) → after ≡ start ++ F (take (i + 1) xs)
  joined_after start xs i {x} within is so_far pushed =
      pushed ∙ ap (λ l. l ++ F (x ∷ [])) so_far ∙ append_assoc start (F (take i xs)) (F (x ∷ []))
      ∙ ap (λ l. start ++ l) (sym (joins (take i xs) (x ∷ [])) ∙ ap F (ap (λ y. take i xs ++ y ∷ []) is ∙ sym (take_more xs i x within)))

  pub joined_more : (xs : List X) (i : ℕ) {x : X} {before after : List Y} → i < length xs → x ≡ get_or xs i x
      → before ≡ F (take i xs) → after ≡ before ++ F (x ∷ []) → after ≡ F (take (i + 1) xs)
  joined_more = joined_after []

module _ {X Y : Type 0} where
  pub mapped_after : (f : X → Y) (start : List Y) (xs : List X) (i : ℕ) {x : X} {before after : List Y} → i < length xs → x ≡ get_or xs i x
      → before ≡ start ++ map f (take i xs) → after ≡ before ++ f x ∷ [] → after ≡ start ++ map f (take (i + 1) xs)
  mapped_after f = joined_after (map f) (map-append f)

  pub mapped_more : (f : X → Y) (xs : List X) (i : ℕ) {x : X} {before after : List Y} → i < length xs → x ≡ get_or xs i x
      → before ≡ map f (take i xs) → after ≡ before ++ f x ∷ [] → after ≡ map f (take (i + 1) xs)
  mapped_more f = mapped_after f []

  pub gathered_after : (f : X → List Y) (start : List Y) (xs : List X) (i : ℕ) {x : X} {before after : List Y} → i < length xs → x ≡ get_or xs i x
      → before ≡ start ++ flat_map f (take i xs) → after ≡ before ++ f x → after ≡ start ++ flat_map f (take (i + 1) xs)
  gathered_after f start xs i {x} {before} within is so_far pushed =
      joined_after (flat_map f) (flat_map-append f) start xs i within is so_far (pushed ∙ ap (λ l. before ++ l) (sym (append-nil (f x))))

  pub gathered_more : (f : X → List Y) (xs : List X) (i : ℕ) {x : X} {before after : List Y} → i < length xs → x ≡ get_or xs i x
      → before ≡ flat_map f (take i xs) → after ≡ before ++ f x → after ≡ flat_map f (take (i + 1) xs)
  gathered_more f = gathered_after f []

  -- of what was taken from a list
  pub mapped_taken : (f : X → Y) (taken : List X) (x : X) {before after : List Y} → before ≡ map f taken → after ≡ before ++ f x ∷ []
      → after ≡ map f (taken ++ x ∷ [])
  mapped_taken f taken x so_far pushed = pushed ∙ ap (λ l. l ++ f x ∷ []) so_far ∙ sym (map-append f taken (x ∷ []))

module _ {X : Type 0} where
  pub kept_more : (p : X → Bool) (xs : List X) (i : ℕ) {x : X} {before after : List X} → i < length xs → x ≡ get_or xs i x
      → before ≡ filter p (take i xs) → after ≡ before ++ filter p (x ∷ []) → after ≡ filter p (take (i + 1) xs)
  kept_more p = joined_more (filter p) (filter-append p)

  -- what was there holds, and so does what is added
  pub all_pushed : (P : X → Type 0) (before : List X) {x : X} {after : List X} → AllByRecursion P before → after ≡ before ++ x ∷ [] → P x
      → AllByRecursion P after
  all_pushed P before {x} all pushed here =
      subst (AllByRecursion P) (sym pushed) (recursion_from_All P (before ++ x ∷ []) (All-push P before x (All-from_recursion P before all) here))

  -- what holds of the elements that were taken holds with the next one
  pub all_more : (P : X → Type 0) (xs : List X) (i : ℕ) (d : X) → i < length xs → AllByRecursion P (take i xs) → P (get_or xs i d)
      → AllByRecursion P (take (i + 1) xs)
  all_more P xs i d within all here =
      recursion_from_All P (take (i + 1) xs) (All-more P xs i d within (All-from_recursion P (take i xs) all) here)
