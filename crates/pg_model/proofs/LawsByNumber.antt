-- Lists by a number that doesn't fall.
use Rattle.std.proofs.Common.{ℕ, suc, ◌≤◌, Bool, true, false, cond, List, [], ◌∷◌, arith, filter}
use Rattle.std.specs.List.{AllByRecursion}
use Rattle.std.specs.List.Sorted.{IsNonDecreasingBy}
use Rattle.std.proofs.lemmas.List.Elements.{All-from_get_or, recursion_from_All}
use Rattle.pg_model.proofs.LawsLists.{all-filter}

module _ {X : Type 0} (key : X → ℕ) where
  abbrev pub IsUp : List X → Type 0
  IsUp [] = Unit {0}
  IsUp (x ∷ xs) = AllByRecursion (λ y. key x ≤ key y) xs × IsUp xs

  pub up_from : (xs : List X) → IsNonDecreasingBy key xs → IsUp xs
  up_from [] h = tt
  up_from (x ∷ xs) h = (
    recursion_from_All (λ y. key x ≤ key y) xs
        (All-from_get_or (λ y. key x ≤ key y) xs x (λ j w. h 0 (suc j) x (omega arith) (omega arith))),
    up_from xs
        (λ i j d l w. h (suc i) (suc j) d (omega arith) (omega arith)),
  )

  pub up-filter : (p : X → Bool) (xs : List X) → IsUp xs → IsUp (filter p xs)
  up-filter p [] h = tt
  up-filter p (x ∷ xs) h = by (p x) (up-filter p xs h.1)
    where
      by : (b : Bool) → IsUp (filter p xs) → IsUp (cond b (x ∷ filter p xs) (filter p xs))
      by true k = (all-filter (λ y. key x ≤ key y) p xs h.0, k)
      by false k = k
