use Rattle.std.proofs.Common.{◌≡◌, ◌++◌}
use Rattle.pg_workers.specs.Rounds.{fallen_in, with_outcomes}
use Rattle.pg_workers.proofs.outcomes.collected.Given as goal

-- with the outcomes that are left it is as with all of them
abbrev pub invariant-loop-outcome : goal.invariant-loop-outcome
invariant-loop-outcome g l = record {
  steps : with_outcomes l.outcome-iterator.rest.items l.steps.items ≡ with_outcomes l.fn.outcomes.items l.initial.steps.items;
  fallen : l.fallen.items ++ fallen_in l.superstep l.outcome-iterator.rest.items ≡ fallen_in l.superstep l.fn.outcomes.items;
}
