use Rattle.std.proofs.Common.{length, ◌-◌, ◌<◌}
use Rattle.pg_sort.proofs.near.reach.Given as goal

abbrev pub invariant-loop-steps : goal.invariant-loop-steps
invariant-loop-steps g l = 0 < l.steps

abbrev pub decreases-loop-steps : goal.decreases-loop-steps
decreases-loop-steps g l = length l.items - l.steps
