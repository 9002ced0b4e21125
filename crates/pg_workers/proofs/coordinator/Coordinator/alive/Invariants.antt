use Rattle.std.proofs.Common.{◌≡◌, ℕ, ◌<◌, [], false}
use Rattle.pg_core.specs.Handed.{is_alive}
use Rattle.pg_workers.proofs.coordinator.Coordinator.alive.Given as goal

-- where none was found, none of the workers so far is alive
abbrev pub invariant-loop-number : goal.invariant-loop-number
invariant-loop-number g l = l.alive.items ≡ [] → (w : ℕ) → w < l.number → is_alive w l.self.core.state ≡ false
