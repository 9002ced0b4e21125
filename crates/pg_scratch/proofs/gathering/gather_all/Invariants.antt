use Rattle.std.proofs.Common.{◌≡◌, ◌++◌, map, drop}
use Rattle.pg_model.specs.Superstep.{gathered_from}
use Rattle.pg_global.specs.Registry.{aggregating_of}
use Rattle.pg_scratch.proofs.gathering.gather_all.Given as goal

abbrev pub invariant-loop-place : goal.invariant-loop-place
invariant-loop-place l =
    l.gathered.items ++ gathered_from l.place (map aggregating_of (drop l.place l.registrations)) (drop l.place l.visible) l.contributed
    ≡ gathered_from 0 (map aggregating_of l.registrations) l.visible l.contributed
