use Rattle.std.proofs.Common.{sym, ◌∙◌}
use Rattle.pg_scratch.proofs.Executing.{ran-idle, context_after-idle, context_after-active}
use Rattle.pg_scratch.proofs.execution.visit.Goals as goal

pub returns-then-not-is_active-clause-with_inbox : goal.returns-then-not-is_active-clause-with_inbox
returns-then-not-is_active-clause-with_inbox g c =
    ran-idle (g.P.Computation.program c.args.program.now) c.args.cx.now.view c.args.with_inbox.now (sym c.is_active.ensures ∙ c.if-not-is_active.true)

pub returns-then-not-is_active-clause-context : goal.returns-then-not-is_active-clause-context
returns-then-not-is_active-clause-context g c =
    context_after-idle (g.P.Computation.program c.args.program.now) c.args.cx.now c.args.with_inbox.now c.requires.fits (sym c.is_active.ensures
    ∙ c.if-not-is_active.true)

pub returns-clause-context : goal.returns-clause-context
returns-clause-context g c =
    context_after-active (g.P.Computation.program c.args.program.now) c.args.cx.now c.args.with_inbox.now c.execute.new.cx (sym c.is_active.ensures
    ∙ c.if-not-is_active.false) c.in_ok-execute.ensures.context
