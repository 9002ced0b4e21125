use Rattle.std.proofs.Common.{refl}
use Rattle.pg_scratch.proofs.Executing.{ran-executed, context-executed}
use Rattle.pg_scratch.proofs.execution.execute.Goals as goal

pub returns-clause-with_inbox : goal.returns-clause-with_inbox
returns-clause-with_inbox g c =
    ran-executed (g.P.Computation.program c.args.program.now) c.args.cx.now.view c.args.with_inbox.now c.take.new.self
    c.compute.new.vertex c.as_slice.result.now c.args.cx.now c.compute.new.cx c.requires.active
    c.in_ok-take.ensures c.as_slice.ensures refl c.in_ok-compute.ensures
    c.give_back.new.state c.clear.new.self c.in_ok-give_back.ensures c.clear.ensures

pub returns-clause-context : goal.returns-clause-context
returns-clause-context g c =
    context-executed (g.P.Computation.program c.args.program.now) c.args.cx.now.view c.args.with_inbox.now
    c.take.new.self c.compute.new.vertex c.as_slice.result.now c.args.cx.now c.compute.new.cx c.requires.active
    c.in_ok-take.ensures c.as_slice.ensures refl c.in_ok-compute.ensures
