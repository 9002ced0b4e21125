use Rattle.std.proofs.Common.{◌≡◌, ◌+◌, is_some, map, take}
use Rattle.std.specs.List.{count_by, flat_map}
use Rattle.std.specs.Map.{keys_of}
use Rattle.std.specs.Option.{option_to_list}
use Rattle.pg_model.specs.Superstep.{capped}
use Rattle.pg_part_compute.specs.VertexPairs.{cold}
use Rattle.pg_part_compute.specs.Found.{change_cold, reads}
use Rattle.pg_part_compute.specs.Executor.{IsReady, changes_of}
use Rattle.pg_part_compute.specs.VertexCountsDeltas.{left_cold}
use Rattle.pg_stats.specs.VertexCounts.{states_among}
use Rattle.pg_stats.specs.Stats.{vertex_counts_of}
use Rattle.pg_part_compute.proofs.vertex_pairs.execute_work_items.Given as goal

abbrev pub invariant-loop-place : goal.invariant-loop-place
invariant-loop-place g l =
    let program = g.P.Computation.program l.program in
    let before = take l.place l.work_items in
    let found = map (cold program l.missing l.superstep l.trace) before in
    record {
      dirty_ids : l.dirty_ids.items ≡ keys_of before;
      changes : changes_of l.executor ≡ flat_map (change_cold program l.fn.step_context.view) found;
      view : l.executor.cx.view ≡ l.fn.step_context.view;
      ready : IsReady program.declared l.executor;
      meter : l.executor.cx.calls ≡ capped (l.fn.step_context.meter + count_by (λ c. is_some (reads l.fn.step_context.view c.new)) found);
      removed : l.vertex_counts_delta.removed ≡ vertex_counts_of (states_among l.superstep (keys_of before) l.trace);
      added : l.vertex_counts_delta.added ≡ vertex_counts_of (flat_map (λ w. option_to_list (left_cold program l.fn.step_context.view l.missing l.superstep l.trace w)) before);
      states : l.states ≡ l.trace;
    }
