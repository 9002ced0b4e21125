use Rattle.std.proofs.Common.{◌++◌, ◌∷◌, [], ap, ◌∙◌}
use Rattle.pg_program.proofs.Appended.{appended_all, appended_more}
use Rattle.pg_program.proofs.context.push_to_all.Goals as goal

pub loop-edge-preserved : goal.loop-edge-preserved
loop-edge-preserved g c =
    appended_more (λ e. (e.0, c.args.message.now)) c.args.edges.now c.loop-edge.edge-index c.edge-item.result c.args.sent.now
    c.loop-edge.sent c.push.new.self c.loop-edge-test.true c.edge-item.is c.loop-edge.invariant
    (c.in_ok-push.ensures.ok ∙ ap (λ m. c.loop-edge.sent ++ (c.edge-item.result.0, m) ∷ []) c.in_ok-copy.ensures)

pub returns-clause-ok : goal.returns-clause-ok
returns-clause-ok g c =
    appended_all (λ e. (e.0, c.args.message.now)) c.args.edges.now c.loop-edge.edge-index c.args.sent.now c.loop-edge.sent
    c.loop-edge-test.false c.loop-edge.invariant
