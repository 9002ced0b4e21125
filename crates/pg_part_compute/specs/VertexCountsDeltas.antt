-- What a step from scratch comes to know of the states of the vertices that it looks at, before and after it.
use Rattle.std.specs.Prelude.{◌≡◌, ℕ, ◌+◌, List, length, Option, None, Some}
use Rattle.std.specs.List.{flat_map, slice_get}
use Rattle.std.specs.Map.{keys_of}
use Rattle.std.specs.Option.{option_map, option_to_list}
use Rattle.pg_part_compute.specs.VertexPairs.{found_at}
use Rattle.pg_part_compute.specs.Found.{reads}
use Rattle.pg_graph.specs.declared.missing.Missing.{Missing}
use Rattle.pg_model.specs.Job.{Program}
use Rattle.pg_model.specs.declared.configuration.VertexState.{VertexState}
use Rattle.pg_model.specs.declared.record.Record.{Record}
use Rattle.pg_model.specs.declared.view.View.{View}
use Rattle.pg_stats.specs.VertexCounts.{state_after, states_among}
use Rattle.pg_stats.specs.declared.vertices.VertexCountsDelta.{VertexCountsDelta}
use Rattle.pg_stats.specs.Stats.{vertex_counts_of}
use Rattle.pg_trace.specs.Trace.{Trace, reaching, state_at, with_replaced}

module _ {V M : Type 0} where
  -- the record that the change at a place gives, if there is one
  abbrev pub given_at : List (ℕ × Option (Record V M)) → ℕ → Option (Record V M)
  given_at changes place = elim (slice_get changes place) [ None ↦ None | Some change ↦ change.1 ]

  -- these are the vertex counts of these ids as superstep s begins, and as the next one begins, in the trace with its
  -- changes
  pub record IsVertexCountsDelta (s : ℕ) (trace : Trace V M) (ids : List ℕ) (changes : List (ℕ × Option (Record V M)))
      (vertex_counts_delta : VertexCountsDelta) : Type 0 where
    pub removed : vertex_counts_delta.removed
        ≡ vertex_counts_of (states_among s ids (with_replaced s changes (reaching s trace)))
    pub added : vertex_counts_delta.added
        ≡ vertex_counts_of (states_among (s + 1) ids (with_replaced s changes (reaching s trace)))

  module _ (program : Program V M) (view : View) (missing : Missing) (s : ℕ) (trace : Trace V M) where
    -- the state that superstep s leaves of a vertex, by what is delivered to it
    abbrev pub left_cold : ℕ × List M → Option (VertexState V)
    left_cold work_item = state_after work_item.0
        (option_map program.step (reads view (found_at program missing s trace work_item)))
        (state_at work_item.0 s trace)

    -- the vertex counts of vertices with what is delivered to each, where the superstep comes next in the trace
    pub record AreVertexCountsDelta (work_items : List (ℕ × List M))
        (vertex_counts_delta : VertexCountsDelta) : Type 0 where
      pub next : length trace.records ≡ s
      pub removed : vertex_counts_delta.removed ≡ vertex_counts_of (states_among s (keys_of work_items) trace)
      pub added : vertex_counts_delta.added ≡ vertex_counts_of (flat_map (λ c. option_to_list (left_cold c)) work_items)
