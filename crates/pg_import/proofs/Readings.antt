-- Readings, one after another.
use Rattle.std.proofs.Common.{◌≡◌, ℕ, ◌+◌, List, [], ◌∷◌, map, Result, Ok, Err, refl, ap}
use Rattle.std.proofs.lemmas.List.{append-nil}
use Rattle.pg_import.specs.Import.{Reading, at_line, edges_from, followed_by}
use Rattle.pg_import.specs.declared.line.ImportFault.{ImportFault}
use Rattle.pg_import.specs.declared.line.Line.{Line}

pub followed_by-none : (meaning : Result (List Line) ImportFault) → followed_by [] meaning ≡ meaning
followed_by-none (Ok lines) = refl
followed_by-none (Err fault) = refl

-- the first reading of a list, and those after it
pub edges_from-first : {X : Type 0} (f : X → Reading) (xs : List X) (x : X) (others : List X) (number : ℕ) (lines : List Line) → xs ≡ x ∷ others
    → followed_by lines (edges_from number (map f xs)) ≡ followed_by lines (at_line number (f x) (edges_from (number + 1) (map f others)))
unfolding edges_from
edges_from-first f xs x others number lines are = rw are refl

-- no reading is left
pub edges_from-end : {X : Type 0} (f : X → Reading) (xs : List X) (number : ℕ) (lines : List Line) → xs ≡ []
    → followed_by lines (edges_from number (map f xs)) ≡ Ok lines
unfolding edges_from
edges_from-end f xs number lines none = rw none (ap Ok (append-nil lines))
