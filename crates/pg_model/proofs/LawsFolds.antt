-- Folds in a commutative monoid: they may be cut, and don't depend on the order.
use Rattle.std.proofs.Common.{◌≡◌, ℕ, zero, suc, ◌+◌, ◌%◌, ◌^◌, ◌<◌, ℤ, pos, ◌+ℤ◌, int_lt, w64, of_z, to_z, cond, List, [], ◌∷◌, ◌++◌, map, length}
use Rattle.std.proofs.Common.{get_or, set, refl, ap, sym, ◌∙◌, subst, arith, rules, add_comm, All, fold, flat_map, swap, IsPermutation}
use Rattle.std.specs.List.{AllByRecursion}
use Rattle.std.proofs.lemmas.Bool.{cond_both}
use Rattle.std.proofs.lemmas.List.Elements.{All-head, All-tail, All-set, All-get_or}
use Rattle.std.proofs.lemmas.List.Sorted.{IsPermutation-keeps}
use Rattle.std.proofs.lemmas.List.Sums.{fold-append}
use Rattle.pg_model.specs.Folds.{IsCommutativeMonoid}
use Rattle.std.specs.Int.{int_max, int_min, int_wrap, int_wrapping_add}
use Rattle.std.specs.Prelude.{FitsSigned}
use Rattle.std.proofs.lemmas.Int.{ints, of_z-to_z, wrapping_add_is, int_wrap_fits, SFits-int_wrap}
use Rattle.pg_model.specs.Aggregators.{least_number, greatest_number}
use Rattle.pg_model.specs.Job.{Aggregating}
use Rattle.pg_model.specs.Superstep.{gathered_at}

-- two elements exchanged, with a default past the end
exchanged : {A : Type 0} → A → List A → ℕ → ℕ → List A
exchanged d l i j = set (set l i (get_or l j d)) j (get_or l i d)

module _ {A : Type 0} {is_value : A → Type 0} {f : A → A → A} {initial : A} (m : IsCommutativeMonoid is_value f initial) where
  -- elements that follow one another may change places
  right_comm : (a x y : A) → is_value a → is_value x → is_value y → f (f a x) y ≡ f (f a y) x
  right_comm a x y p q r = m.associative a x y p q r ∙ (ap (f a) (m.commutative x y q r) ∙ sym (m.associative a y x p r q))

  -- a fold of values is a value
  pub fold_stays : (a : A) (xs : List A) → is_value a → All is_value xs → is_value (fold f a xs)
  fold_stays a [] p h = p
  fold_stays a (x ∷ xs) p h = fold_stays (f a x) xs (m.stays a x p (All-head is_value x xs h)) (All-tail is_value x xs h)

  -- a fold from a is a and the fold of the rest
  pub fold_from : (a : A) (xs : List A) → is_value a → All is_value xs → fold f a xs ≡ f a (fold f initial xs)
  fold_from a [] p h = sym (m.commutative a initial p m.begins ∙ m.neutral a p)
  fold_from a (x ∷ xs) p h =
      let x_is = All-head is_value x xs h in
      let rest = All-tail is_value x xs h in
      fold_from (f a x) xs (m.stays a x p x_is) rest
      ∙ (m.associative a x (fold f initial xs) p x_is (fold_stays initial xs m.begins rest)
      ∙ ap (f a) (sym (ap (λ (b : A). fold f b xs) (m.neutral x x_is) ∙ fold_from x xs x_is rest)))

  -- the fold of a list that is cut in two is made of the folds of its parts
  pub fold_of_parts : (a : A) (xs ys : List A) → is_value a → All is_value xs → All is_value ys → fold f a (xs ++ ys) ≡ f (fold f a xs) (fold f initial ys)
  fold_of_parts a xs ys p h k = fold-append f a xs ys ∙ fold_from (fold f a xs) ys (fold_stays a xs p h) k

  module _ {X : Type 0} (g : X → List A) where
    -- and so is that of a list made of many parts
    pub fold-flat_map : (a : A) (xs : List X) → is_value a → AllByRecursion (λ x. All is_value (g x)) xs
        → fold f a (flat_map g xs) ≡ fold f a (map (λ x. fold f initial (g x)) xs)
    fold-flat_map a [] p h = refl
    fold-flat_map a (x ∷ xs) p h =
        fold-append f a (g x) (flat_map g xs)
        ∙ (fold-flat_map (fold f a (g x)) xs (fold_stays a (g x) p h.0) h.1
        ∙ ap (λ (b : A). fold f b (map (λ x. fold f initial (g x)) xs)) (fold_from a (g x) p h.0))

  -- an element taken out in front of the one that takes its place
  fold-set : (a : A) (l : List A) (i : ℕ) (y d : A) → i < length l → is_value a → is_value y → All is_value l
      → fold f (f a (get_or l i d)) (set l i y) ≡ fold f (f a y) l
  fold-set a [] i y d within p q h = absurd (omega arith)
  fold-set a (x ∷ xs) zero y d within p q h = ap (λ (b : A). fold f b xs) (right_comm a x y p (All-head is_value x xs h) q)
  fold-set a (x ∷ xs) (suc i) y d within p q h =
      let x_is = All-head is_value x xs h in
      let rest = All-tail is_value x xs h in
      let old_is : is_value (get_or xs i d) = All-get_or is_value xs i d (omega arith) rest in
      ap (λ (b : A). fold f b (set xs i y)) (right_comm a (get_or xs i d) x p old_is x_is)
      ∙ (fold-set (f a x) xs i y d (omega arith) (m.stays a x p x_is) q rest ∙ ap (λ (b : A). fold f b xs) (right_comm a x y p x_is q))

  fold-exchanged : (a : A) (l : List A) (i j : ℕ) (d : A) → i < length l → j < length l → is_value a → All is_value l
      → fold f a (exchanged d l i j) ≡ fold f a l
  unfolding exchanged
  fold-exchanged a [] i j d p q r h = absurd (omega arith)
  fold-exchanged a (x ∷ xs) zero zero d p q r h = refl
  fold-exchanged a (x ∷ xs) zero (suc j) d p q r h = fold-set a xs j x d (omega arith) r (All-head is_value x xs h) (All-tail is_value x xs h)
  fold-exchanged a (x ∷ xs) (suc i) zero d p q r h = fold-set a xs i x d (omega arith) r (All-head is_value x xs h) (All-tail is_value x xs h)
  fold-exchanged a (x ∷ xs) (suc i) (suc j) d p q r h =
      fold-exchanged (f a x) xs i j d (omega arith) (omega arith) (m.stays a x r (All-head is_value x xs h)) (All-tail is_value x xs h)

  swapped : (a : A) (l : List A) (i j : ℕ) → i < length l → j < length l → is_value a → All is_value l → fold f a (swap l i j) ≡ fold f a l
  unfolding exchanged
  swapped a [] i j p q r h = absurd (omega arith)
  swapped a (x ∷ xs) i j p q r h = fold-exchanged a (x ∷ xs) i j x p q r h

  still_values : (l : List A) (i j : ℕ) → i < length l → j < length l → All is_value l → All is_value (swap l i j)
  still_values [] i j p q h = h
  still_values (x ∷ xs) i j p q h =
      All-set is_value (set (x ∷ xs) i (get_or (x ∷ xs) j x)) j (get_or (x ∷ xs) i x) (All-get_or is_value (x ∷ xs) i x p h)
      (All-set is_value (x ∷ xs) i (get_or (x ∷ xs) j x) (All-get_or is_value (x ∷ xs) j x q h) h)

  -- the fold of a list doesn't depend on its order
  pub fold-IsPermutation : (a : A) (xs ys : List A) → is_value a → All is_value xs → IsPermutation xs ys → fold f a ys ≡ fold f a xs
  fold-IsPermutation a xs ys p h moved =
      (IsPermutation-keeps xs (λ l. All is_value l × (fold f a l ≡ fold f a xs)) (h, refl)
      (λ l i j q r k. (still_values l i j q r k.0, swapped a l i j q r p k.0 ∙ k.1)) ys moved).1

-- what is gathered goes on from what was gathered of a first part
pub gathered_at-append : (a : Aggregating) (value : ℤ) (xs ys : List ℤ) → gathered_at a value (xs ++ ys) ≡ fold a.aggregate (gathered_at a value xs) ys
gathered_at-append a value xs ys = fold-append a.aggregate (cond a.persistent value a.initial) xs ys

-- and doesn't depend on the order of the contributions
pub gathered_at-IsPermutation : (a : Aggregating) (is_value : ℤ → Type 0) → IsCommutativeMonoid is_value a.aggregate a.initial
    → (value : ℤ) (xs ys : List ℤ) → is_value value → All is_value xs → IsPermutation xs ys
    → gathered_at a value ys ≡ gathered_at a value xs
gathered_at-IsPermutation a is_value m value xs ys p h moved =
    fold-IsPermutation m (cond a.persistent value a.initial) xs ys (cond_both a.persistent value a.initial is_value (λ _. p) (λ _. m.begins)) h moved

-- ---- numbers of 64 bits

-- the greater of two
pub IsCommutativeMonoid-int_max : IsCommutativeMonoid (FitsSigned w64) int_max least_number
IsCommutativeMonoid-int_max = record {
  begins = search rules;
  stays = λ a b p q. cond_both (int_lt b a) a b (FitsSigned w64) (λ _. p) (λ _. q);
  neutral = λ a p. grind (arith, ints);
  commutative = λ a b p q. grind (arith, ints);
  associative = λ a b c p q r. grind (arith, ints);
}

-- the lesser
pub IsCommutativeMonoid-int_min : IsCommutativeMonoid (FitsSigned w64) int_min greatest_number
IsCommutativeMonoid-int_min = record {
  begins = search rules;
  stays = λ a b p q. cond_both (int_lt b a) b a (FitsSigned w64) (λ _. q) (λ _. p);
  neutral = λ a p. grind (arith, ints);
  commutative = λ a b p q. grind (arith, ints);
  associative = λ a b c p q r. grind (arith, ints);
}

grouped : (a b c : ℕ) → ((a + b) % 2 ^ 64 + c) % 2 ^ 64 ≡ (a + (b + c) % 2 ^ 64) % 2 ^ 64
grouped a b c = omega arith

zero_left : (a : ℤ) → pos 0 +ℤ a ≡ a
zero_left a = omega (arith, ints)

below : (a : ℕ) → a % 2 ^ 64 < 2 ^ 64
below a = omega arith

-- the sum in two's complement
pub IsCommutativeMonoid-int_wrapping_add : IsCommutativeMonoid (FitsSigned w64) (int_wrapping_add w64) (pos 0)
IsCommutativeMonoid-int_wrapping_add = record {
  begins = search rules;
  stays = λ a b p q. subst (FitsSigned w64) (sym (wrapping_add_is w64 a b p q)) (SFits-int_wrap w64 (a +ℤ b));
  neutral = λ a p.
      wrapping_add_is w64 (pos 0) a (search rules) p
      ∙ (ap (int_wrap w64) (zero_left a) ∙ int_wrap_fits w64 a p);
  commutative = λ a b p q. ap (λ (n : ℕ). to_z w64 (n % 2 ^ 64)) (add_comm (of_z w64 a) (of_z w64 b));
  associative = λ a b c p q r.
      ap (λ (n : ℕ). to_z w64 ((n + of_z w64 c) % 2 ^ 64)) (of_z-to_z w64 ((of_z w64 a + of_z w64 b) % 2 ^ 64) (below _))
      ∙ (ap (to_z w64) (grouped (of_z w64 a) (of_z w64 b) (of_z w64 c))
      ∙ sym (ap (λ (n : ℕ). to_z w64 ((of_z w64 a + n) % 2 ^ 64)) (of_z-to_z w64 ((of_z w64 b + of_z w64 c) % 2 ^ 64) (below _))));
}
