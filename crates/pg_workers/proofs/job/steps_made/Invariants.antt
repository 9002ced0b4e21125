use Rattle.std.proofs.Common.{◌≡◌, map}
use Rattle.std.specs.List.{range_with_len}
use Rattle.pg_core.specs.Handed.{steps_of}
use Rattle.pg_workers.proofs.job.steps_made.Given as goal

-- those of the partitions so far
abbrev pub invariant-loop-number : goal.invariant-loop-number
invariant-loop-number l = l.steps ≡ map (λ p. steps_of p l.history) (range_with_len 0 l.number)
