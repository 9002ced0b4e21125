use Rattle.std.proofs.Common.{◌≡◌, map, take}
use Rattle.pg_global.specs.Registry.{aggregating_of}
use Rattle.pg_core.proofs.beginning.initial_values.Given as goal

abbrev pub invariant-loop-place : goal.invariant-loop-place
invariant-loop-place l = l.values ≡ map (λ e. (aggregating_of e.1).initial) (take l.place l.registry)
