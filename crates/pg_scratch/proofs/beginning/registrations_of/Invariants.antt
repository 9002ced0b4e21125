use Rattle.std.proofs.Common.{◌≡◌, map, take}
use Rattle.pg_scratch.proofs.beginning.registrations_of.Given as goal

abbrev pub invariant-loop-place : goal.invariant-loop-place
invariant-loop-place l = l.registrations.items ≡ map (λ e. e.1) (take l.place l.registry)
