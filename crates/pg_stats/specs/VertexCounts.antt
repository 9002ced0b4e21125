-- The counts of some vertices, and of all from those of before.
use Rattle.std.specs.Prelude.{◌≡◌, ℕ, ◌+◌, Bool, cond, List, Option}
use Rattle.std.specs.List.{flat_map}
use Rattle.std.specs.Option.{option_map, option_or, option_to_list}
use Rattle.pg_model.specs.declared.configuration.VertexState.{VertexState}
use Rattle.pg_model.specs.declared.record.Record.{Record}
use Rattle.pg_stats.specs.declared.vertices.VertexCountsDelta.{VertexCountsDelta}
use Rattle.pg_stats.specs.Stats.{vertex_counts_of}
use Rattle.pg_stats.specs.declared.stats.VertexCounts.{VertexCounts}
use Rattle.pg_trace.specs.Trace.{Trace, left_by, state_at}

-- the states of some vertices as superstep s begins, of those that have one
abbrev pub states_among : {V M : Type 0} → ℕ → List ℕ → Trace V M → List (VertexState V)
states_among s ids trace = flat_map (λ id. option_to_list (state_at id s trace)) ids

abbrev pub of_none : VertexCounts
of_none = record { vertices = 0; edges = 0; unhalted = 0 }

-- two vertex counts together are this one
pub record IsSum (first second sum : VertexCounts) : Type 0 where
  pub vertices : sum.vertices ≡ first.vertices + second.vertices
  pub edges : sum.edges ≡ first.edges + second.edges
  pub unhalted : sum.unhalted ≡ first.unhalted + second.unhalted

-- the counts of one vertex
abbrev pub of_one : ℕ → Bool → VertexCounts
of_one degree halted = record { vertices = 1; edges = degree; unhalted = cond halted 0 1 }

-- the counts of before, without what is removed and with what is added
pub record HasCountDelta (before removed added after : VertexCounts) : Type 0 where
  pub vertices : after.vertices + removed.vertices ≡ before.vertices + added.vertices
  pub edges : after.edges + removed.edges ≡ before.edges + added.edges
  pub unhalted : after.unhalted + removed.unhalted ≡ before.unhalted + added.unhalted

-- the state of an id after a superstep that gave it this record, if any: the state in that, or else the one before
abbrev pub state_after : {V M : Type 0} → ℕ → Option (Record V M) → Option (VertexState V) → Option (VertexState V)
state_after id given before = option_or (option_map (left_by id) given) before

-- the counts of some vertices before and after a superstep, with one more, which it gave this record, if any
pub record AddsToVertexCountsDelta {V M : Type 0} (vertex_counts_delta : VertexCountsDelta)
    (before : Option (VertexState V)) (given : Option (Record V M)) (id : ℕ) (after : VertexCountsDelta) : Type 0 where
  pub removed : IsSum vertex_counts_delta.removed (vertex_counts_of (option_to_list before)) after.removed
  pub added : IsSum vertex_counts_delta.added (vertex_counts_of (option_to_list (state_after id given before)))
      after.added
