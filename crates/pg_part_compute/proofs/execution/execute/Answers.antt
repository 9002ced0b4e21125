use Rattle.std.proofs.Common.{ap, length, Some, [], ◌∷◌, ◌++◌, ◌∙◌}
use Rattle.pg_trace.specs.Handed.{Executed}
use Rattle.pg_part_compute.proofs.Executing.{executed, executed_within}
use Rattle.pg_part_compute.proofs.execution.execute.Goals as goal

pub returns-clause-given : goal.returns-clause-given
returns-clause-given g c =
    let produced : Executed _ = record {
      value = c.in_ok-state.state.value;
      edges = c.in_ok-state.state.edges;
      halted = c.in_ok-state.state.halted;
      sent = c.in_ok-between.field-0;
      contributed = c.in_ok-between-2.field-0;
    } in
    executed (g.P.Computation.program c.args.program.now) c.args.state c.in_ok-vertex.vertex c.compute.new.vertex c.in_ok-state.state
    c.args.delivered.now c.args.executor.now.cx c.compute.new.cx c.in_ok-vertex.ensures c.in_ok-compute.ensures c.in_ok-state.ensures
    c.args.executor.now.produced.items c.requires.ready.within c.args.id c.in_ok-between.field-0 c.in_ok-between-2.field-0
    (c.push_reserved.ensures.items ∙ ap (λ l. l ++ (c.args.id, Some produced) ∷ []) c.in_ok-reserve.ensures.items)
    c.in_ok-between.ensures.first (ap length c.sent-sent.ensures) c.in_ok-between.ensures.end (ap length c.sent.ensures)
    c.in_ok-between-2.ensures.first (ap length c.contributed-contributed.ensures) c.in_ok-between-2.ensures.end (ap length c.contributed.ensures)

pub returns-clause-ready : goal.returns-clause-ready
returns-clause-ready g c =
    let produced : Executed _ = record {
      value = c.in_ok-state.state.value;
      edges = c.in_ok-state.state.edges;
      halted = c.in_ok-state.state.halted;
      sent = c.in_ok-between.field-0;
      contributed = c.in_ok-between-2.field-0;
    } in
    record {
      writes = ap (λ x. x.writes) c.in_ok-compute.ensures.context_is ∙ c.requires.ready.writes;
      within =
          executed_within (g.P.Computation.program c.args.program.now) c.args.state c.in_ok-vertex.vertex c.compute.new.vertex c.in_ok-state.state
          c.args.delivered.now c.args.executor.now.cx c.compute.new.cx c.in_ok-vertex.ensures c.in_ok-compute.ensures c.in_ok-state.ensures
          c.args.executor.now.produced.items c.requires.ready.within c.args.id c.in_ok-between.field-0 c.in_ok-between-2.field-0
          (c.push_reserved.ensures.items ∙ ap (λ l. l ++ (c.args.id, Some produced) ∷ []) c.in_ok-reserve.ensures.items)
          c.in_ok-between.ensures.first (ap length c.sent-sent.ensures) c.in_ok-between.ensures.end (ap length c.sent.ensures)
          c.in_ok-between-2.ensures.first (ap length c.contributed-contributed.ensures) c.in_ok-between-2.ensures.end (ap length c.contributed.ensures);
    }
