-- How many parts begin at an id or below it, or how many entries are below one, told by two of them, or by the last.
use Rattle.std.proofs.Common.{◌≡◌, ℕ, ◌+◌, ◌<◌, ◌≤◌, List, length, get_or, Bool, true, false, not, IsTrue, leb, refl, sym, ap, ◌∙◌, arith}
use Rattle.std.specs.List.Sorted.{IsNonDecreasingBy, IsPartitionPoint}
use Rattle.std.proofs.lemmas.Bool.Decides.{nat_tests}
use Rattle.std.proofs.lemmas.List.{get_or_default}

pub no_by : (b : Bool) → IsTrue (not b) → b ≡ false
no_by true h = sym h
no_by false h = refl

module _ {X : Type 0} (number : X → ℕ) (xs : List X) (rise : IsNonDecreasingBy number xs) (id n m : ℕ) (last : m + 1 ≡ n)
    (within : n ≤ length xs) (c : X) (c_is : c ≡ get_or xs m c) where
  below : number c ≤ id → (k : ℕ) (x : X) → k < n → leb (number (get_or xs k x)) id ≡ true
  below low k x h =
      let bound = rise k m x (omega arith) (omega arith) in
      let same : number (get_or xs m x) ≡ number c = ap number (get_or_default xs m x c (omega arith) ∙ sym c_is) in
      let fits : number (get_or xs k x) ≤ id = omega arith in
      grind (arith, nat_tests)

  above : (d : X) → d ≡ get_or xs n d → n < length xs → id < number d → (k : ℕ) (x : X) → n ≤ k → k < length xs
      → leb (number (get_or xs k x)) id ≡ false
  above d d_is inside high k x h g =
      let bound = rise n k x h g in
      let same : number (get_or xs n x) ≡ number d = ap number (get_or_default xs n x d inside ∙ sym d_is) in
      let past : id < number (get_or xs k x) = omega arith in
      grind (arith, nat_tests)

  pub begun_by_two : (d : X) → d ≡ get_or xs n d → n < length xs → leb (number c) id ≡ true → leb (number d) id ≡ false
      → IsPartitionPoint (λ y. leb (number y) id ≡ true) (λ y. leb (number y) id ≡ false) xs n
  begun_by_two d d_is inside low high =
      (λ k x z h. below (grind (arith, nat_tests)) k x h, λ k x h g. above d d_is inside (grind (arith, nat_tests)) k x h g)

  pub begun_by_last : n ≡ length xs → leb (number c) id ≡ true
      → IsPartitionPoint (λ y. leb (number y) id ≡ true) (λ y. leb (number y) id ≡ false) xs n
  begun_by_last all low = (λ k x z h. below (grind (arith, nat_tests)) k x h, λ k x h g. absurd (omega arith))
