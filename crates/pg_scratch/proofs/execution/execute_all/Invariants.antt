use Rattle.std.proofs.Common.{ℕ}
use Rattle.pg_scratch.proofs.Passing.{PassedTo}
use Rattle.pg_scratch.proofs.execution.execute_all.Given as goal

abbrev pub invariant-loop-place : goal.invariant-loop-place
invariant-loop-place g l =
    (low : ℕ) × PassedTo (g.P.Computation.program l.program) l.initial.with_inboxes.items l.with_inboxes.items l.initial.cx
    l.cx l.work l.found.unhalted.items l.found.edges l.place-index low
