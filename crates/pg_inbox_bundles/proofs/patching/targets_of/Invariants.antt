use Rattle.std.proofs.Common.{◌≡◌, ◌++◌, map, take}
use Rattle.pg_inbox_bundles.proofs.patching.targets_of.Given as goal

abbrev pub invariant-loop-target : goal.invariant-loop-target
invariant-loop-target g l = l.targets.items ≡ map (λ w. w.1) l.retracted ++ map (λ m. m.0) (take l.target-index l.added)
