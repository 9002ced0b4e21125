-- Tests of records.
use Rattle.std.proofs.Common.{◌≡◌, ℕ, suc, ◌+◌, ◌-◌, ◌<◌, ◌≤◌, ◌^◌, ◌/◌, ◌%◌, ◌==◌, ◌&&◌, Bool, false, List, ◌∷◌, length, drop, drop-cons, get_or, sym, ap, ◌∙◌, arith, nat_lt, inl, inr}
use Rattle.std.proofs.lemmas.Bool.Decides.{nat_tests}
use Rattle.std.proofs.lemmas.Bool.{cases_order}
use Rattle.std.specs.List.{list_all}
use Rattle.std.specs.List.Sorted.{IsStrictlySortedBy}
use Rattle.std.specs.Map.{keys_of}
use Rattle.std.specs.Ordering.{nat_cmp}
use Rattle.std.proofs.Math.Nat.{div-eq_of_lt, pow-le-pow_right}
use Rattle.std.proofs.lemmas.List.{get_or-map, length-map}
use Rattle.std.proofs.lemmas.Map.Keys.{IsStrictlyIncreasing-from_sorted, sorted_from_strictly_increasing}
use Rattle.pg_model.specs.Job.{has_place}

-- a place beyond those that sixteen bits tell
pub not_declared : (writes number place : ℕ) → writes < 2 ^ 16 → number ≡ place → 16 ≤ number → nat_lt number 16 ≡ has_place writes place
not_declared writes number place fits same beyond =
    let far : 16 ≤ place = omega (arith, same, beyond) in
    let not : nat_lt number 16 ≡ false = grind (arith, nat_tests) in
    let power : 2 ^ 16 ≤ 2 ^ place = pow-le-pow_right {n = 2} (omega arith) far in
    let none : writes / 2 ^ place ≡ 0 = div-eq_of_lt (omega (arith, fits, power)) in
    not ∙ sym (ap (λ n. n % 2 == 1) none)

-- all of a list from one item on
pub from_here : {X : Type 0} (p : X → Bool) (xs : List X) (i : ℕ) (x : X) → i < length xs → x ≡ get_or xs i x
    → list_all p (drop i xs) ≡ (p x && list_all p (drop (i + 1) xs))
from_here p xs i x within is =
    let next : suc i ≡ i + 1 = omega arith in
    ap (list_all p) (drop-cons xs i x within ∙ ap (λ y. y ∷ drop (suc i) xs) (sym is) ∙ ap (λ k. x ∷ drop k xs) next)

module _ {X : Type 0} (entries : List (ℕ × X)) where
  abbrev id_at : ℕ → ℕ
  id_at k = get_or (keys_of entries) k 0

  key_is : (k : ℕ) (e : ℕ × X) → k < length entries → e ≡ get_or entries k e → id_at k ≡ e.0
  key_is k e within is = get_or-map (λ x. x.0) entries k e 0 within ∙ sym (ap (λ x. x.0) is)

  pub rises_on : (place : ℕ) (e before : ℕ × X) → place < length entries → 1 ≤ place → e ≡ get_or entries place e
      → before ≡ get_or entries (place - 1) before → before.0 < e.0 → ((k : ℕ) → k + 1 < place → id_at k < id_at (k + 1))
      → (k : ℕ) → k + 1 < place + 1 → id_at k < id_at (k + 1)
  rises_on place e before within some is was less so_far k fits = elim (cases_order (k + 1) place) [
    | inl here ↦
        let there : place - 1 ≡ k = omega (arith, here) in
        let low : id_at k ≡ before.0 = ap id_at (sym there) ∙ key_is (place - 1) before (omega (arith, within)) was in
        let high : id_at (k + 1) ≡ e.0 = ap id_at here ∙ key_is place e within is in
        omega (arith, low, high, less)
    | inr (inl below) ↦ so_far k below
    | inr (inr above) ↦ absurd (omega (arith, fits, above))
  ]

  pub not_rising : (place : ℕ) (e before : ℕ × X) → place < length entries → 1 ≤ place → e ≡ get_or entries place e
      → before ≡ get_or entries (place - 1) before → e.0 ≤ before.0 → IsStrictlySortedBy nat_cmp (keys_of entries) → ⊥
  not_rising place e before within some is was most rise =
      let low : id_at (place - 1) ≡ before.0 = key_is (place - 1) before (omega (arith, within)) was in
      let high : id_at place ≡ e.0 = key_is place e within is in
      let next : place - 1 + 1 ≡ place = omega (arith, some) in
      let less : id_at (place - 1) < id_at (place - 1 + 1) =
      IsStrictlyIncreasing-from_sorted (keys_of entries) rise (place - 1) (omega (arith, within, some, length-map entries (λ x. x.0))) in
      let same = ap id_at next in
      omega (arith, low, high, less, same, most)

  pub is_rising : (place : ℕ) → length entries ≤ place → ((k : ℕ) → k + 1 < place → id_at k < id_at (k + 1)) → IsStrictlySortedBy nat_cmp (keys_of entries)
  is_rising place end so_far = sorted_from_strictly_increasing (keys_of entries)
      (λ k within. so_far k (omega (arith, end, within, length-map entries (λ x. x.0))))
