use Rattle.std.proofs.Common.{◌≡◌, ◌+◌, ◌++◌, map}
use Rattle.std.specs.List.{count_by, flat_map}
use Rattle.pg_model.specs.Superstep.{capped}
use Rattle.pg_part_compute.specs.Found.{change_of, is_run}
use Rattle.pg_part_compute.specs.Executor.{IsReady, changes_of}
use Rattle.pg_part_compute.proofs.execution.execute_pairs.Given as goal

abbrev pub invariant-loop-vertex_pair : goal.invariant-loop-vertex_pair
invariant-loop-vertex_pair g l =
    let program = g.P.Computation.program l.program in
    record {
      dirty_ids : l.dirty_ids.items ≡ map (λ c. c.id) l.yielded;
      changes : changes_of l.executor ≡ flat_map (change_of g.P.Value.PartialEq.eq g.P.Message.PartialEq.eq program l.fn.step_context.view l.same_view) l.yielded;
      view : l.executor.cx.view ≡ l.fn.step_context.view;
      ready : IsReady program.declared l.executor;
      meter : l.executor.cx.calls ≡ capped (l.fn.step_context.meter + count_by
          (is_run g.P.Value.PartialEq.eq g.P.Message.PartialEq.eq program l.fn.step_context.view l.same_view) l.yielded);
      whole : l.yielded ++ l.vertex_pair-iterator.rest.items ≡ l.fn.vertex_pairs.items;
    }
