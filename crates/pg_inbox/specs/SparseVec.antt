-- Numbered places, of which some have a value.
use Rattle.std.specs.Prelude.{ℕ, zero, suc, List, [], ◌∷◌, Option, None, Some}

abbrev pub value_in : {X : Type 0} → ℕ → List (Option X) → Option X
value_in place [] = None
value_in zero (x ∷ xs) = x
value_in (suc place) (x ∷ xs) = value_in place xs

-- a value at a place of what stands at another, if anything does
abbrev pub inside : {X : Type 0} → ℕ → Option (List (Option X)) → Option X
inside place None = None
inside place (Some xs) = value_in place xs
