-- Parts of a list of runs.
use Rattle.std.specs.Prelude.{ℕ, List, map}
use Rattle.std.specs.List.{AllByRecursion}
use Rattle.pg_trace_index.specs.History.{IsPart, part_of}
use Rattle.pg_trace_index.specs.declared.ran.Occurrence.{Occurrence}
use Rattle.pg_trace_index.specs.declared.listing.ListRange.{ListRange}

-- each is one
abbrev pub AreParts : List Occurrence → List (ℕ × ListRange) → Type 0
AreParts runs parts = AllByRecursion (λ p. IsPart runs p.1.first p.1.end p.1.latest) parts

-- the supersteps in each
abbrev pub parts_of : List Occurrence → List (ℕ × ListRange) → List (ℕ × List ℕ)
parts_of runs parts = map (λ p. (p.0, part_of runs p.1.first p.1.end)) parts
