use Rattle.std.proofs.Common.{◌≡◌, ◌++◌, drop}
use Rattle.pg_model.specs.Superstep.{shown}
use Rattle.pg_global.proofs.seen.shown.Given as goal

abbrev pub invariant-loop-place : goal.invariant-loop-place
invariant-loop-place l = l.shown ++ shown l.places l.place (drop l.place l.values) ≡ shown l.places 0 l.values
