use Rattle.std.proofs.Common.{ℕ, ◌+◌, ◌<◌, get_or}
use Rattle.std.specs.Map.{keys_of}
use Rattle.pg_checkpoint.proofs.bounds.rise.Given as goal

abbrev pub invariant-loop-place : goal.invariant-loop-place
invariant-loop-place g l = (k : ℕ) → k + 1 < l.place → get_or (keys_of l.entries) k 0 < get_or (keys_of l.entries) (k + 1) 0
