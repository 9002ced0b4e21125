use Rattle.std.proofs.Common.{◌≡◌, ◌++◌, map, take}
use Rattle.pg_inbox_bundles.proofs.patching.add_retracted.Given as goal

abbrev pub invariant-loop-target : goal.invariant-loop-target
invariant-loop-target l = l.targets.items ≡ l.fn.targets.items ++ map (λ w. w.1) (take l.target-index l.retracted)
