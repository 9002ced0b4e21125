use Rattle.std.proofs.Common.{◌≡◌, map, take}
use Rattle.pg_global.specs.Registry.{aggregating_of}
use Rattle.pg_scratch.proofs.beginning.initial_values.Given as goal

abbrev pub invariant-loop-registration : goal.invariant-loop-registration
invariant-loop-registration l = l.values ≡ map (λ r. (aggregating_of r).initial) (take l.registration-index l.registrations)
