-- The runs of a vertex, as they lie in memory.
use Rattle.std.specs.Prelude.{◌≡◌, ◌≤◌, ◌++◌, ℕ, List, length, map, slice_range, Some}
use Rattle.pg_trace_index.specs.Occurrences.{last_of}
use Rattle.pg_trace_index.specs.declared.ran.Occurrence.{Occurrence}

-- their supersteps
abbrev pub steps_of : List Occurrence → List ℕ
steps_of runs = map (λ r. r.superstep) runs

-- those of a part of a list
abbrev pub part_of : List Occurrence → ℕ → ℕ → List ℕ
part_of runs first end = steps_of (slice_range runs first end)

-- a part of a list, and the last run in it
pub record IsPart (runs : List Occurrence) (first end : ℕ) (latest : Occurrence) : Type 0 where
  pub start : first ≤ end
  pub within : end ≤ length runs
  pub last : Some latest.superstep ≡ last_of (part_of runs first end)

-- a list of runs with more behind the others, in these supersteps
pub record Adds (steps : List ℕ) (before after : List Occurrence) : Type 0 where
  pub more : List Occurrence
  pub is : after ≡ before ++ more
  pub steps_are : steps_of more ≡ steps
