use Rattle.std.proofs.Common.{◌≡◌, map, take}
use Rattle.pg_scratch.proofs.undeliverable.each_target.Given as goal

abbrev pub invariant-loop-target : goal.invariant-loop-target
invariant-loop-target g l = l.ids.items ≡ map (λ m. m.0) (take l.target-index l.sent)
