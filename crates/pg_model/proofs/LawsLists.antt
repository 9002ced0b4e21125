-- Lists that the laws of a run speak of: what holds of each element, order, membership and counts.
use Rattle.std.proofs.Common.{◌≡◌, ℕ, zero, suc, ◌+◌, ◌<◌, Bool, true, false, cond, List, [], ◌∷◌, ◌++◌, map, length, get_or, refl, ap, ap₂, sym, ◌∙◌}
use Rattle.std.proofs.Common.{arith, inl, inr, ◌⊎◌, Contains, sum_by, count_by, zero-add, filter, flat_map, not, IsPermutation, subst, subst₂, leb}
use Rattle.std.proofs.Common.{◌==◌}
use Rattle.std.specs.List.{AllByRecursion, range_with_len}
use Rattle.std.proofs.lemmas.Bool.{lt-leb, le-leb}
use Rattle.std.proofs.lemmas.Bool.Decides.{nat_tests}
use Rattle.std.specs.List.Sorted.{IsStrictlySortedBy}
use Rattle.std.specs.declared.cmp.Ordering.{Ordering}
use Rattle.std.specs.declared.cmp.Ordering.TheVariants.{Less}
use Rattle.std.proofs.lemmas.List.Sorted.{sum_by-IsPermutation, IsPermutation-refl, IsPermutation-trans, IsPermutation-append_left}
use Rattle.std.proofs.lemmas.List.Sorted.{IsPermutation-append_right, IsPermutation-append_comm}
use Rattle.std.proofs.lemmas.List.{append_assoc}
use Rattle.std.proofs.lemmas.List.Sums.{sum_by-cons, sum_by-append}

-- what follows from a test either way
pub by_bool : {P : Type 0} (b : Bool) → (b ≡ true → P) → (b ≡ false → P) → P
by_bool true x y = x refl
by_bool false x y = y refl

module _ {X : Type 0} where
  -- what holds of each element of two lists holds of each of both together
  pub all-append : (P : X → Type 0) (xs ys : List X) → AllByRecursion P xs → AllByRecursion P ys → AllByRecursion P (xs ++ ys)
  all-append P [] ys h k = k
  all-append P (x ∷ xs) ys h k = (h.0, all-append P xs ys h.1 k)

  -- what follows for each element
  pub all_weaker : (P Q : X → Type 0) → ((x : X) → P x → Q x) → (xs : List X) → AllByRecursion P xs → AllByRecursion Q xs
  all_weaker P Q w [] h = tt
  all_weaker P Q w (x ∷ xs) h = (w x h.0, all_weaker P Q w xs h.1)

  -- two sorted lists, all of the first below all of the second
  pub sorted-append : (c : X → X → Ordering) (xs ys : List X) → IsStrictlySortedBy c xs → IsStrictlySortedBy c ys
      → AllByRecursion (λ x. AllByRecursion (λ y. c x y ≡ Less) ys) xs → IsStrictlySortedBy c (xs ++ ys)
  unfolding IsStrictlySortedBy
  sorted-append c [] ys h k cross = k
  sorted-append c (x ∷ xs) ys h k cross = (all-append _ xs ys h.0 cross.0, sorted-append c xs ys h.1 k cross.1)

module _ {X : Type 0} where
  -- a list has its first element
  pub contains_first : (x : X) (xs : List X) → Contains (x ∷ xs) x
  contains_first x xs = (0, omega arith, refl)

  -- and those of its rest
  pub contains_later : (x y : X) (xs : List X) → Contains xs y → Contains (x ∷ xs) y
  contains_later x y xs h = (suc h.0, omega (arith, h.1), h.2)

  -- and no other
  pub contains_cases : (x y : X) (xs : List X) → Contains (x ∷ xs) y → (x ≡ y) ⊎ Contains xs y
  contains_cases x y xs h = at h.0 h.1 h.2
    where
      at : (k : ℕ) → k < length (x ∷ xs) → get_or (x ∷ xs) k y ≡ y → (x ≡ y) ⊎ Contains xs y
      at zero within e = inl e
      at (suc k) within e = inr (k, omega arith, e)

module _ {X : Type 0} where
  -- two facts about each element
  pub all_both : (P Q R : X → Type 0) → ((x : X) → P x → Q x → R x) → (xs : List X) → AllByRecursion P xs → AllByRecursion Q xs → AllByRecursion R xs
  all_both P Q R w [] h k = tt
  all_both P Q R w (x ∷ xs) h k = (w x h.0 k.0, all_both P Q R w xs h.1 k.1)

  -- a fact about what f makes of each element
  pub all_from_map : {Y : Type 0} (f : Y → X) (P : X → Type 0) (ys : List Y) → AllByRecursion P (map f ys) → AllByRecursion (λ y. P (f y)) ys
  all_from_map f P [] h = tt
  all_from_map f P (y ∷ ys) h = (h.0, all_from_map f P ys h.1)

  pub all_to_map : {Y : Type 0} (f : Y → X) (P : X → Type 0) (ys : List Y) → AllByRecursion (λ y. P (f y)) ys → AllByRecursion P (map f ys)
  all_to_map f P [] h = tt
  all_to_map f P (y ∷ ys) h = (h.0, all_to_map f P ys h.1)

  -- a filter keeps what holds of each element
  pub all-filter : (P : X → Type 0) (p : X → Bool) (xs : List X) → AllByRecursion P xs → AllByRecursion P (filter p xs)
  all-filter P p [] h = tt
  all-filter P p (x ∷ xs) h = by (p x) (all-filter P p xs h.1)
    where
      by : (b : Bool) → AllByRecursion P (filter p xs) → AllByRecursion P (cond b (x ∷ filter p xs) (filter p xs))
      by true k = (h.0, k)
      by false k = k

  -- a count goes by what the test answers
  pub same_count : (p q : X → Bool) (xs : List X) → AllByRecursion (λ x. p x ≡ q x) xs → count_by p xs ≡ count_by q xs
  same_count p q [] h = refl
  same_count p q (x ∷ xs) h =
      sum_by-cons (λ (x : X). cond (p x) 1 0) x xs
      ∙ (ap₂ (λ (b : Bool) (n : ℕ). cond b 1 0 + n) h.0 (same_count p q xs h.1) ∙ sym (sum_by-cons (λ (x : X). cond (q x) 1 0) x xs))

  -- a count of what f makes of each element
  pub count_by-map : {Y : Type 0} (p : X → Bool) (f : Y → X) (ys : List Y) → count_by p (map f ys) ≡ count_by (λ y. p (f y)) ys
  count_by-map p f [] = refl
  count_by-map p f (y ∷ ys) =
      sum_by-cons (λ (x : X). cond (p x) 1 0) (f y) (map f ys)
      ∙ (ap (λ (n : ℕ). cond (p (f y)) 1 0 + n) (count_by-map p f ys) ∙ sym (sum_by-cons (λ y. cond (p (f y)) 1 0) y ys))

  -- no element passes a test that always fails
  pub count-none : (xs : List X) → count_by (λ x. false) xs ≡ 0
  count-none [] = refl
  count-none (x ∷ xs) = sum_by-cons (λ (x : X). 0) x xs ∙ (zero-add _ ∙ count-none xs)

module _ {X Y : Type 0} where
  -- what is made of the elements that a test picks, where nothing is made of the others
  pub flat_map-filter : (f : X → List Y) (p : X → Bool) → ((x : X) → p x ≡ false → f x ≡ []) → (xs : List X) → flat_map f (filter p xs) ≡ flat_map f xs
  flat_map-filter f p nothing [] = refl
  flat_map-filter f p nothing (x ∷ xs) = by (p x) refl (flat_map-filter f p nothing xs)
    where
      by : (b : Bool) → p x ≡ b → flat_map f (filter p xs) ≡ flat_map f xs → flat_map f (cond b (x ∷ filter p xs) (filter p xs)) ≡ f x ++ flat_map f xs
      by true e h = ap (◌++◌ (f x)) h
      by false e h = h ∙ ap (◌++ flat_map f xs) (sym (nothing x e))

  -- the elements that pass, and then the others
  pub flat_map-both : (f : X → List Y) (p : X → Bool) (xs : List X)
      → IsPermutation (flat_map f xs) (flat_map f (filter p xs) ++ flat_map f (filter (λ x. not (p x)) xs))
  flat_map-both f p [] = IsPermutation-refl []
  flat_map-both f p (x ∷ xs) = by (p x) (flat_map-both f p xs)
    where
      rest : List X
      rest = filter (λ x. not (p x)) xs

      by : (b : Bool) → IsPermutation (flat_map f xs) (flat_map f (filter p xs) ++ flat_map f rest)
          → IsPermutation (f x ++ flat_map f xs) (flat_map f (cond b (x ∷ filter p xs) (filter p xs)) ++ flat_map f (cond (not b) (x ∷ rest) rest))
      by true h =
          subst (IsPermutation (f x ++ flat_map f xs)) (sym (append_assoc (f x) (flat_map f (filter p xs)) (flat_map f rest)))
          (IsPermutation-append_right (f x) _ _ h)
      by false h =
          let front =
          subst (IsPermutation (f x ++ flat_map f xs)) (sym (append_assoc (f x) (flat_map f (filter p xs)) (flat_map f rest)))
          (IsPermutation-append_right (f x) _ _ h) in
          let turned =
          IsPermutation-append_left (flat_map f rest) (f x ++ flat_map f (filter p xs)) (flat_map f (filter p xs) ++ f x)
          (IsPermutation-append_comm (f x) (flat_map f (filter p xs))) in
          IsPermutation-trans _ _ _ front (subst (IsPermutation ((f x ++ flat_map f (filter p xs)) ++ flat_map f rest))
          (append_assoc (flat_map f (filter p xs)) (f x) (flat_map f rest)) turned)

-- two filters, one after the other, are one
pub filter-filter : {X : Type 0} (p q r : X → Bool) → ((x : X) → cond (q x) (p x) false ≡ r x) → (xs : List X) → filter p (filter q xs) ≡ filter r xs
filter-filter p q r e [] = refl
filter-filter {X = X} p q r e (x ∷ xs) = by (q x) (filter-filter p q r e xs) ∙ ap (λ (b : Bool). cond b (x ∷ filter r xs) (filter r xs)) (e x)
  where
    by : (b : Bool) → filter p (filter q xs) ≡ filter r xs
        → filter p (cond b (x ∷ filter q xs) (filter q xs)) ≡ cond (cond b (p x) false) (x ∷ filter r xs) (filter r xs)
    by true h = ap (λ (l : List X). cond (p x) (x ∷ l) l) h
    by false h = h

-- a filter of what f makes of each element
pub filter-map : {X Y : Type 0} (p : Y → Bool) (f : X → Y) (xs : List X) → filter p (map f xs) ≡ map f (filter (λ x. p (f x)) xs)
filter-map p f [] = refl
filter-map {X = X} p f (x ∷ xs) = by (p (f x)) (filter-map p f xs)
  where
    by : (b : Bool) → filter p (map f xs) ≡ map f (filter (λ x. p (f x)) xs)
        → cond b (f x ∷ filter p (map f xs)) (filter p (map f xs)) ≡ map f (cond b (x ∷ filter (λ x. p (f x)) xs) (filter (λ x. p (f x)) xs))
    by true h = ap (◌∷◌ (f x)) h
    by false h = h

-- a filter that all elements pass leaves the list
pub all_pass : {X : Type 0} (p : X → Bool) → ((x : X) → p x ≡ true) → (xs : List X) → filter p xs ≡ xs
all_pass p e [] = refl
all_pass {X = X} p e (x ∷ xs) = ap₂ (λ (b : Bool) (l : List X). cond b (x ∷ l) l) (e x) (all_pass p e xs)

here_or_above : (a c : ℕ) → cond (leb a c) (c == a) false ≡ (c == a)
here_or_above a c = grind (arith, nat_tests)

only_above : (a c : ℕ) → cond (leb a c) (not (c == a)) false ≡ leb (a + 1) c
only_above a c = grind (arith, nat_tests)

module _ {X Y : Type 0} (f : X → List Y) (class : X → ℕ) where
  none_above : (a : ℕ) (xs : List X) → ((x : X) → class x < a) → flat_map f (filter (λ x. leb a (class x)) xs) ≡ []
  none_above a [] h = refl
  none_above a (x ∷ xs) h =
      ap (λ (b : Bool). flat_map f (cond b (x ∷ filter (λ x. leb a (class x)) xs) (filter (λ x. leb a (class x)) xs))) (lt-leb a (class x) (h x))
      ∙ none_above a xs h

  above_classes : (a n : ℕ) (xs : List X) → ((x : X) → class x < a + n)
      → IsPermutation (flat_map f (filter (λ x. leb a (class x)) xs)) (flat_map (λ k. flat_map f (filter (λ x. class x == k) xs)) (range_with_len a n))
  above_classes a zero xs h =
      subst (λ (l : List Y). IsPermutation l []) (sym (none_above a xs (λ x. omega (arith, h x)))) (IsPermutation-refl [])
  above_classes a (suc n) xs h =
      let ys : List X = filter (λ x. leb a (class x)) xs in
      let here : filter (λ x. class x == a) ys ≡ filter (λ x. class x == a) xs =
      filter-filter (λ x. class x == a) (λ x. leb a (class x)) (λ x. class x == a) (λ x. here_or_above a (class x)) xs in
      let above : filter (λ x. not (class x == a)) ys ≡ filter (λ x. leb (a + 1) (class x)) xs =
      filter-filter (λ x. not (class x == a)) (λ x. leb a (class x)) (λ x. leb (a + 1) (class x)) (λ x. only_above a (class x)) xs in
      let parts : IsPermutation (flat_map f ys) (flat_map f (filter (λ x. class x == a) xs) ++ flat_map f (filter (λ x. leb (a + 1) (class x)) xs)) =
      subst₂ (λ (u v : List X). IsPermutation (flat_map f ys) (flat_map f u ++ flat_map f v)) here above (flat_map-both f (λ x. class x == a) ys) in
      IsPermutation-trans _ _ _ parts
      (IsPermutation-append_right (flat_map f (filter (λ x. class x == a) xs)) _ _ (above_classes (a + 1) n xs (λ x. omega (arith, h x))))

  -- what is made of all elements is what is made of those of class 0, of class 1, and so on
  pub flat_map-classes : (n : ℕ) (xs : List X) → ((x : X) → class x < n)
      → IsPermutation (flat_map f xs) (flat_map (λ k. flat_map f (filter (λ x. class x == k) xs)) (range_with_len 0 n))
  flat_map-classes n xs h =
      subst (λ (l : List X). IsPermutation (flat_map f l) (flat_map (λ k. flat_map f (filter (λ x. class x == k) xs)) (range_with_len 0 n)))
      (all_pass (λ x. leb 0 (class x)) (λ x. le-leb 0 (class x) (omega arith)) xs) (above_classes 0 n xs (λ x. omega (arith, h x)))

module _ {X Y : Type 0} (g : Y → ℕ) (f : X → List Y) where
  -- a sum over many lists is the sum of their sums
  pub sum_by-flat_map : (xs : List X) → sum_by g (flat_map f xs) ≡ sum_by (λ x. sum_by g (f x)) xs
  sum_by-flat_map [] = refl
  sum_by-flat_map (x ∷ xs) =
      sum_by-append g (f x) (flat_map f xs) ∙ (ap (λ (n : ℕ). sum_by g (f x) + n) (sum_by-flat_map xs) ∙ sym (sum_by-cons (λ x. sum_by g (f x)) x xs))

module _ {X : Type 0} (class : X → ℕ) where
  singles : (xs : List X) → flat_map (λ x. x ∷ []) xs ≡ xs
  singles [] = refl
  singles (x ∷ xs) = ap (◌∷◌ x) (singles xs)

  -- a list is its elements of class 0, of class 1, and so on, in another order
  pub classes : (n : ℕ) (xs : List X) → ((x : X) → class x < n) → IsPermutation xs (flat_map (λ k. filter (λ x. class x == k) xs) (range_with_len 0 n))
  classes n xs h =
      subst₂ (λ (l : List X) (part : ℕ → List X). IsPermutation l (flat_map part (range_with_len 0 n))) (singles xs)
      (λ i k. singles (filter (λ x. class x == k) xs) i) (flat_map-classes (λ x. x ∷ []) class n xs h)

  -- a count is the sum of the counts in the classes
  pub count-classes : (test : X → Bool) (n : ℕ) (xs : List X) → ((x : X) → class x < n)
      → sum_by (λ k. count_by test (filter (λ x. class x == k) xs)) (range_with_len 0 n) ≡ count_by test xs
  count-classes test n xs h =
      let one : X → ℕ = λ x. cond (test x) 1 0 in
      sym (sum_by-flat_map one (λ k. filter (λ x. class x == k) xs) (range_with_len 0 n))
      ∙ sum_by-IsPermutation one xs (flat_map (λ k. filter (λ x. class x == k) xs) (range_with_len 0 n)) (classes n xs h)
