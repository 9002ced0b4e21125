use Rattle.std.proofs.Common.{◌≡◌}
use Rattle.pg_workers.specs.Rounds.{with_steps}
use Rattle.pg_workers.proofs.outcomes.put_all.Given as goal

-- with the steps that are left it is as with all of them
abbrev pub invariant-loop-done : goal.invariant-loop-done
invariant-loop-done g l = with_steps l.done-iterator.rest.items l.steps.items ≡ with_steps l.fn.dones.items l.fn.steps.items
