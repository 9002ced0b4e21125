-- What contributions come to may be gathered part by part, whatever numbers they are.
use Rattle.std.proofs.Common.{◌≡◌, ℕ, zero, suc, ◌+◌, ◌-◌, ◌%◌, ◌^◌, ◌<◌, ◌≤◌, ◌≤ℤ◌, ℤ, pos, negsuc, List, [], ◌∷◌, ◌++◌, map, All, FitsSigned, w64}
use Rattle.std.proofs.Common.{of_z, to_z, refl, ap, sym, ◌∙◌, subst, arith, rules, fold, flat_map, IsPermutation, inl, inr}
use Rattle.std.specs.Int.{int_bit_and, int_bit_or, int_max, int_min, int_wrapping_add}
use Rattle.std.specs.List.{AllByRecursion}
use Rattle.std.specs.Prelude.{bit_and, bit_or}
use Rattle.std.proofs.Math.Facts.{Fits-of_z, sfits_to_z}
use Rattle.std.proofs.lemmas.Bool.{cases_lt}
use Rattle.std.proofs.lemmas.Bool.Decides.{nat_tests}
use Rattle.std.proofs.lemmas.Int.{ints, of_z-to_z}
use Rattle.std.proofs.lemmas.List.{map-append}
use Rattle.std.proofs.lemmas.List.Sorted.{IsPermutation-map}
use Rattle.std.proofs.lemmas.Nat.{and_assoc, and_le_l, and_mask, or_lt, le_or_r}
use Rattle.pg_global.specs.AnyAggregator.{initial_of, operation_of}
use Rattle.pg_global.specs.Monoids.{operation_of-lawful}
use Rattle.pg_global.specs.declared.aggregator.AnyAggregator.{AnyAggregator}
use Rattle.pg_global.specs.declared.aggregator.AnyAggregator.TheVariants.{BitAnd, BitOr, LongMax, LongMin, LongSum}
use Rattle.pg_model.specs.Aggregators.{greatest_number, least_number}
use Rattle.pg_model.specs.Folds.{IsCommutativeMonoid}
use Rattle.pg_model.proofs.LawsFolds.{fold-IsPermutation, fold-flat_map}

-- ---- operations that take any number as a value

-- an operation takes any number as the value that it makes of it with the initial one
pub record TakesAny {A : Type 0} (is_value : A → Type 0) (f : A → A → A) (initial : A) : Type 0 where
  pub lawful : IsCommutativeMonoid is_value f initial
  pub makes : (y : A) → is_value (f initial y)
  pub same : (x y : A) → is_value x → f x y ≡ f x (f initial y)

module _ {A : Type 0} {is_value : A → Type 0} {f : A → A → A} {initial : A} (t : TakesAny is_value f initial) where
  fold-made : (x : A) (ys : List A) → is_value x → fold f x ys ≡ fold f x (map (f initial) ys)
  fold-made x [] h = refl
  fold-made x (y ∷ ys) h =
      let next : is_value (f x (f initial y)) = t.lawful.stays x (f initial y) h (t.makes y) in
      ap (λ (z : A). fold f z ys) (t.same x y h) ∙ fold-made (f x (f initial y)) ys next

  all_made : (ys : List A) → All is_value (map (f initial) ys)
  all_made [] k d h = absurd (omega (arith, h))
  all_made (y ∷ ys) zero d h = t.makes y
  all_made (y ∷ ys) (suc k) d h = all_made ys k d (omega (arith, h))

  each_made : {X : Type 0} (part : X → List A) (ps : List X) → AllByRecursion (λ p. All is_value (map (f initial) (part p))) ps
  each_made part [] = tt
  each_made part (p ∷ ps) = (all_made (part p), each_made part ps)

  made_of_parts : {X : Type 0} (part : X → List A) (ps : List X) → map (f initial) (flat_map part ps) ≡ flat_map (λ p. map (f initial) (part p)) ps
  made_of_parts part [] = refl
  made_of_parts part (p ∷ ps) =
      map-append (f initial) (part p) (flat_map part ps) ∙ ap (λ l. map (f initial) (part p) ++ l) (made_of_parts part ps)

  -- so numbers may be gathered part by part, in any order
  pub fold_in_parts : {X : Type 0} (x : A) (whole : List A) (part : X → List A) (ps : List X) → is_value x → IsPermutation whole (flat_map part ps)
      → fold f x (map (λ p. fold f initial (part p)) ps) ≡ fold f x whole
  fold_in_parts {X = X} x whole part ps h moved =
      let made : A → A = f initial in
      let moved_made : IsPermutation (map made whole) (flat_map (λ p. map made (part p)) ps) =
      subst (IsPermutation (map made whole)) (made_of_parts part ps) (IsPermutation-map made whole (flat_map part ps) moved) in
      ap (λ (g : X → A). fold f x (map g ps)) (λ i p. fold-made initial (part p) t.lawful.begins i)
      ∙ (sym (fold-flat_map t.lawful (λ p. map made (part p)) x ps h (each_made part ps))
      ∙ (fold-IsPermutation t.lawful x (map made whole) (flat_map (λ p. map made (part p)) ps) h (all_made whole) moved_made
      ∙ sym (fold-made x whole h)))

-- ---- the aggregators do

abbrev pub not_below : ℤ → Type 0
not_below a = least_number ≤ℤ a

abbrev pub not_above : ℤ → Type 0
not_above a = a ≤ℤ greatest_number

-- the numbers that an aggregator takes as they are
abbrev pub is_value_of : AnyAggregator → ℤ → Type 0
is_value_of LongSum = FitsSigned w64
is_value_of LongMin = not_above
is_value_of LongMax = not_below
is_value_of BitAnd = FitsSigned w64
is_value_of BitOr = FitsSigned w64

takes_any-int_max : TakesAny not_below int_max least_number
takes_any-int_max = record {
  lawful = record {
    begins = search rules;
    stays = λ a b p q. grind (arith, ints);
    neutral = λ a p. grind (arith, ints);
    commutative = λ a b p q. grind (arith, ints);
    associative = λ a b c p q r. grind (arith, ints);
  };
  makes = λ y. grind (arith, ints);
  same = λ x y p. grind (arith, ints);
}

takes_any-int_min : TakesAny not_above int_min greatest_number
takes_any-int_min = record {
  lawful = record {
    begins = search rules;
    stays = λ a b p q. grind (arith, ints);
    neutral = λ a p. grind (arith, ints);
    commutative = λ a b p q. grind (arith, ints);
    associative = λ a b c p q r. grind (arith, ints);
  };
  makes = λ y. grind (arith, ints);
  same = λ x y p. grind (arith, ints);
}

below : (n : ℕ) → n % 2 ^ 64 < 2 ^ 64
below n = omega arith

added_rest : (a b : ℕ) → (a + b) % 2 ^ 64 ≡ (a + (0 + b) % 2 ^ 64) % 2 ^ 64
added_rest a b = omega arith

takes_any-int_wrapping_add : TakesAny (FitsSigned w64) (int_wrapping_add w64) (pos 0)
takes_any-int_wrapping_add = record {
  lawful = operation_of-lawful LongSum;
  makes = λ y. sfits_to_z (record { fits = below (0 + of_z w64 y) });
  same = λ x y p. ap (to_z w64) (added_rest (of_z w64 x) (of_z w64 y))
      ∙ sym (ap (λ n. to_z w64 ((of_z w64 x + n) % 2 ^ 64)) (of_z-to_z w64 ((0 + of_z w64 y) % 2 ^ 64) (below (0 + of_z w64 y))));
}

bits_fit : (x : ℤ) → FitsSigned w64 x → of_z w64 x < 2 ^ 64
bits_fit x h = (Fits-of_z {w = w64} h).fits

and_below : (n : ℕ) → bit_and (2 ^ 64 - 1) n < 2 ^ 64
and_below n = let h : bit_and (2 ^ 64 - 1) n ≤ 2 ^ 64 - 1 = and_le_l (2 ^ 64 - 1) n in omega arith

and_rest : (m n : ℕ) → m < 2 ^ 64 → bit_and m n ≡ bit_and m (bit_and (2 ^ 64 - 1) n)
and_rest m n h =
    let whole : m ≡ bit_and m (2 ^ 64 - 1) = omega (arith, and_mask m 64, h) in
    ap (λ k. bit_and k n) whole ∙ and_assoc n m (2 ^ 64 - 1)

takes_any-int_bit_and : TakesAny (FitsSigned w64) (int_bit_and w64) (negsuc 0)
takes_any-int_bit_and = record {
  lawful = operation_of-lawful BitAnd;
  makes = λ y. sfits_to_z (record { fits = and_below (of_z w64 y) });
  same = λ x y p. ap (to_z w64) (and_rest (of_z w64 x) (of_z w64 y) (bits_fit x p))
      ∙ sym (ap (λ n. to_z w64 (bit_and (of_z w64 x) n)) (of_z-to_z w64 (bit_and (2 ^ 64 - 1) (of_z w64 y)) (and_below (of_z w64 y))));
}

-- bits past the 64th read as all of them
all_bits : (n : ℕ) → 2 ^ 64 ≤ n → to_z w64 n ≡ negsuc 0
all_bits n h = grind (arith, nat_tests)

or_ones : (m : ℕ) → m < 2 ^ 64 → bit_or m (2 ^ 64 - 1) ≡ 2 ^ 64 - 1
or_ones m h =
    let low : 2 ^ 64 - 1 ≤ bit_or m (2 ^ 64 - 1) = le_or_r m (2 ^ 64 - 1) in
    let high : bit_or m (2 ^ 64 - 1) < 2 ^ 64 = or_lt 64 m (2 ^ 64 - 1) h (omega arith) in
    omega arith

or_fits : (y : ℤ) → FitsSigned w64 (int_bit_or w64 (pos 0) y)
or_fits y =
    elim (cases_lt (of_z w64 y) (2 ^ 64)) [
      | inl less ↦ sfits_to_z (record { fits = less })
      | inr more ↦ subst (FitsSigned w64) (sym (all_bits (of_z w64 y) more)) (search rules)
    ]

or_same : (x y : ℤ) → FitsSigned w64 x → int_bit_or w64 x y ≡ int_bit_or w64 x (int_bit_or w64 (pos 0) y)
or_same x y h =
    let m : ℕ = of_z w64 x in
    let n : ℕ = of_z w64 y in
    elim (cases_lt n (2 ^ 64)) [
      | inl less ↦ sym (ap (λ k. to_z w64 (bit_or m k)) (of_z-to_z w64 n less))
      | inr more ↦ (
          let above : n ≤ bit_or m n = le_or_r m n in
          all_bits (bit_or m n) (omega arith)
          ∙ (sym (ap (to_z w64) (or_ones m (bits_fit x h))) ∙ sym (ap (λ z. int_bit_or w64 x z) (all_bits n more)))
          )
    ]

takes_any-int_bit_or : TakesAny (FitsSigned w64) (int_bit_or w64) (pos 0)
takes_any-int_bit_or = record { lawful = operation_of-lawful BitOr; makes = or_fits; same = or_same }

pub operation_of-takes_any : (a : AnyAggregator) → TakesAny (is_value_of a) (operation_of a) (initial_of a)
operation_of-takes_any LongSum = takes_any-int_wrapping_add
operation_of-takes_any LongMin = takes_any-int_min
operation_of-takes_any LongMax = takes_any-int_max
operation_of-takes_any BitAnd = takes_any-int_bit_and
operation_of-takes_any BitOr = takes_any-int_bit_or

-- numbers of 64 bits are values of each
pub is_value_of-fits : (a : AnyAggregator) (x : ℤ) → FitsSigned w64 x → is_value_of a x
is_value_of-fits LongSum x h = h
is_value_of-fits LongMin x h = grind (arith, ints)
is_value_of-fits LongMax x h = grind (arith, ints)
is_value_of-fits BitAnd x h = h
is_value_of-fits BitOr x h = h
