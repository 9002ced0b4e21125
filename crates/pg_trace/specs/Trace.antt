-- What a run leaves of one partition, and the states that are read from it.
use Rattle.std.specs.Prelude.{ℕ, ◌==◌, cond, List, [], ◌∷◌, ◌++◌, length, map, take, slice_index_or, slice_set, Option}
use Rattle.std.specs.List.{find}
use Rattle.std.specs.List.Sorted.{IsStrictlySortedBy}
use Rattle.std.specs.Option.{option_map, option_or}
use Rattle.std.specs.Ordering.{nat_cmp}
use Rattle.pg_map.specs.Entries.{value_at, with_changes}
use Rattle.pg_trace_index.specs.Records.{last_record}
use Rattle.pg_model.specs.declared.configuration.VertexState.{VertexState}
use Rattle.pg_model.specs.declared.record.Record.{Record}

-- the states with which the partition began, and for each superstep the records of those that ran, both by rising id
pub record Trace (V M : Type 0) : Type 0 where
  pub initial : List (VertexState V)
  pub records : List (List (ℕ × Record V M))

module _ {V : Type 0} where
  -- the ids of states rise
  abbrev pub StatesRise : List (VertexState V) → Type 0
  StatesRise states = IsStrictlySortedBy nat_cmp (map (λ x. x.id) states)

  -- the state with an id
  abbrev pub state_of : ℕ → List (VertexState V) → Option (VertexState V)
  state_of id states = find (λ x. x.id == id) states

module _ {V M : Type 0} where
  -- as a run begins with these states
  abbrev pub begun : List (VertexState V) → Trace V M
  begun initial = record { initial = initial; records = [] }

  -- the records of superstep s
  abbrev pub records_of : ℕ → Trace V M → List (ℕ × Record V M)
  records_of s trace = slice_index_or trace.records s []

  -- the record of an id in superstep s, if it ran in it
  abbrev pub record_at : ℕ → ℕ → Trace V M → Option (Record V M)
  record_at id s trace = value_at id (records_of s trace)

  -- the state that a record leaves
  abbrev pub left_by : ℕ → Record V M → VertexState V
  left_by id r = record { id = id; value = r.value; edges = r.edges; halted = r.halted }

  -- the state as superstep s begins: that in the last record before it, else the initial one
  abbrev pub state_at : ℕ → ℕ → Trace V M → Option (VertexState V)
  state_at id s trace = option_or (option_map (left_by id) (last_record id (take s trace.records)))
      (state_of id trace.initial)

  -- with one superstep more
  abbrev pub with_superstep : List (ℕ × Record V M) → Trace V M → Trace V M
  with_superstep records trace = record trace { records = trace.records ++ records ∷ [] }

  -- the first s supersteps
  abbrev pub first_supersteps : ℕ → Trace V M → Trace V M
  first_supersteps s trace = record trace { records = take s trace.records }

  -- with changes of the records of superstep s
  abbrev pub with_replaced : ℕ → List (ℕ × Option (Record V M)) → Trace V M → Trace V M
  with_replaced s changes trace =
      record trace { records = slice_set trace.records s (with_changes changes (records_of s trace)) }

  -- with one superstep more, of no records, where superstep s comes next
  abbrev pub reaching : ℕ → Trace V M → Trace V M
  reaching s trace = cond (length trace.records == s) (with_superstep [] trace) trace
