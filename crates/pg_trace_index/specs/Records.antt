-- The records of supersteps: each a list by rising id.
use Rattle.std.specs.Prelude.{ℕ, ◌==◌, cond, List, [], ◌∷◌, ◌++◌, length, slice_index_or, slice_set, Option, None}
use Rattle.std.specs.Option.{option_or}
use Rattle.pg_map.specs.Entries.{value_at, with_changes}

module _ {X : Type 0} where
  -- the last record of an id in these supersteps, if it ran in any
  abbrev pub last_record : ℕ → List (List (ℕ × X)) → Option X
  last_record id [] = None
  last_record id (records ∷ later) = option_or (last_record id later) (value_at id records)

  -- supersteps, with changes of the records of superstep s, which they have or which comes next
  abbrev pub put_at : ℕ → List (ℕ × Option X) → List (List (ℕ × X)) → List (List (ℕ × X))
  put_at s changes records =
      let reached = cond (length records == s) (records ++ [] ∷ []) records in
      slice_set reached s (with_changes changes (slice_index_or reached s []))
