use Rattle.std.proofs.Common.{None, true, false, IfSome, subst}
use Rattle.std.proofs.lemmas.Result.{IfOk-weaker}
use Rattle.pg_part_compute.specs.VertexPairs.{IsStepDelta, unhalted_ids}
use Rattle.pg_part_compute.specs.VertexCountsDeltas.{IsVertexCountsDelta}
use Rattle.pg_part.proofs.cold.step_delta.Goals as goal

pub returns-clause-step_delta : goal.returns-clause-step_delta
returns-clause-step_delta g c =
    let program = g.P.Computation.program c.args.program.now in
    let combining = g.C.MessageCombiner.combining c.args.combiner.now in
    IfOk-weaker c.execute_cold.result _ _ (λ step_delta is.
    subst (λ h. IsStepDelta g.P.Value.PartialEq.eq g.P.Message.PartialEq.eq program h.missing combining c.args.step_context.view h.partitions h.partition h.place h.trace
    c.args.bundles.now None (unhalted_ids h.place h.trace) true false c.args.step_context.meter step_delta) c.part_run.view_is is) c.execute_cold.ensures.step_delta

pub returns-clause-vertex_counts_delta : goal.returns-clause-vertex_counts_delta
returns-clause-vertex_counts_delta g c =
    IfOk-weaker c.execute_cold.result _ _ (λ step_delta vertex_counts_delta. subst
    (λ h. IfSome step_delta.vertex_counts_delta (IsVertexCountsDelta h.place h.trace step_delta.dirty_ids.items step_delta.changes)) c.part_run.view_is vertex_counts_delta) c.execute_cold.ensures.vertex_counts_delta
