-- Of rising ids of which so many are below one: whether that is the next.
use Rattle.std.proofs.Common.{◌≡◌, ℕ, ◌<◌, Bool, List, length, get_or, ltb, nat_eq, true, false, refl, sym, ap, ◌∙◌, arith}
use Rattle.std.specs.List.Sorted.{IsPartitionPoint, IsStrictlySortedBy}
use Rattle.std.specs.Ordering.{nat_cmp}
use Rattle.std.specs.declared.cmp.Ordering.TheVariants.{Less, Greater}
use Rattle.std.proofs.lemmas.Bool.{eqb-true}
use Rattle.std.proofs.lemmas.Bool.Decides.{nat_tests}
use Rattle.std.proofs.lemmas.List.{get_or_default}
use Rattle.std.proofs.lemmas.Map.Keys.{non_decreasing_from_sorted}
use Rattle.pg_model.specs.Superstep.{has_id}
use Rattle.pg_model.proofs.LawsListed.{has_id-get_or}
use Rattle.pg_model.proofs.LawsSearching.{has_id-missing}

is_Less : (a b : ℕ) → ltb a b ≡ true → nat_cmp a b ≡ Less
is_Less a b h = grind (arith, nat_tests)

is_Greater : (a b : ℕ) → b < a → nat_cmp a b ≡ Greater
is_Greater a b h = grind (arith, nat_tests)

above_then : (a b : ℕ) → ltb a b ≡ false → nat_eq a b ≡ false → b < a
above_then a b h other = grind (arith, nat_tests)

module _ (ids : List ℕ) (rise : IsStrictlySortedBy nat_cmp ids) (id n : ℕ) where
  module _ (parts : IsPartitionPoint (λ k. ltb k id ≡ true) (λ k. ltb k id ≡ false) ids n) where
    -- where there is no next, or it is another, it isn't there
    pub missing : ((d : ℕ) → n < length ids → nat_eq (get_or ids n d) id ≡ false) → has_id ids id ≡ false
    missing other =
        has_id-missing ids id n (
          λ k d z h. is_Less (get_or ids k d) id (parts.0 k d z h),
          λ k d h g.
              let inside : n < length ids = omega (arith, h, g) in
              let bound = non_decreasing_from_sorted ids rise n k d h g in
              let above = above_then (get_or ids n d) id (parts.1 n d (omega arith) inside) (other d inside) in
              is_Greater (get_or ids k d) id (omega (arith, bound, above)),
        )

    -- and where there is a next, it is there if that is it
    pub next_is : (x : ℕ) → n < length ids → x ≡ get_or ids n x → nat_eq x id ≡ has_id ids id
    next_is x inside x_is = by (nat_eq x id) refl
      where
        by : (b : Bool) → nat_eq x id ≡ b → b ≡ has_id ids id
        by true e = sym (ap (has_id ids) (sym (eqb-true x id e) ∙ x_is) ∙ has_id-get_or ids n x inside)
        by false e = sym (missing (λ d h. ap (λ k. nat_eq k id) (get_or_default ids n d x h ∙ sym x_is) ∙ e))
