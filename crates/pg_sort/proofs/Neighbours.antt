-- How many items of a list by rising number are below one, told by the two beside that place.
use Rattle.std.proofs.Common.{◌≡◌, ℕ, ◌+◌, ◌-◌, ◌<◌, ◌≤◌, List, length, get_or, Bool, true, false, not, ltb, refl, sym, ap, ◌∙◌, arith}
use Rattle.std.specs.List.Sorted.{IsNonDecreasingBy, IsPartitionPoint}
use Rattle.std.proofs.lemmas.Bool.Decides.{nat_tests}
use Rattle.std.proofs.lemmas.List.{get_or_default}

module _ {X : Type 0} (number : X → ℕ) (xs : List X) (rise : IsNonDecreasingBy number xs) (id n : ℕ) where
  -- the last of the first n is below it, if there is one
  abbrev pub IsLastBelow : Type 0
  IsLastBelow = (d : X) → 0 < n → ltb (number (get_or xs (n - 1) d)) id ≡ true

  -- the next isn't, if there is one
  abbrev pub IsNextAbove : Type 0
  IsNextAbove = (d : X) → n < length xs → ltb (number (get_or xs n d)) id ≡ false

  pub parted : n ≤ length xs → IsLastBelow → IsNextAbove
      → IsPartitionPoint (λ x. ltb (number x) id ≡ true) (λ x. ltb (number x) id ≡ false) xs n
  parted within last next = (below, above)
    where
      below : (k : ℕ) (d : X) → 0 ≤ k → k < n → ltb (number (get_or xs k d)) id ≡ true
      below k d z h =
          let low = last d (omega arith) in
          let bound = rise k (n - 1) d (omega arith) (omega arith) in
          grind (arith, nat_tests)

      above : (k : ℕ) (d : X) → n ≤ k → k < length xs → ltb (number (get_or xs k d)) id ≡ false
      above k d h g =
          let high = next d (omega arith) in
          let bound = rise n k d h g in
          grind (arith, nat_tests)

pub yes_by : (b : Bool) → not b ≡ false → b ≡ true
yes_by true h = refl
yes_by false h = sym h

-- what a test of one item says, whatever stands for no item
pub tested : {X : Type 0} (number : X → ℕ) (xs : List X) (id n : ℕ) (c : X) (b : Bool) → c ≡ get_or xs n c → n < length xs → ltb (number c) id ≡ b
    → (d : X) → ltb (number (get_or xs n d)) id ≡ b
tested number xs id n c b is within low d = ap (λ x. ltb (number x) id) (get_or_default xs n d c within ∙ sym is) ∙ low
