use Rattle.std.proofs.Common.{◌≡◌, map, take}
use Rattle.pg_global.specs.Registry.{aggregating_of}
use Rattle.pg_stats.specs.Stats.{gathered_afresh}
use Rattle.pg_stats.proofs.gathering.gathered.Given as goal

abbrev pub invariant-loop-place : goal.invariant-loop-place
invariant-loop-place l = l.gathered ≡ gathered_afresh 0 (map (λ e. aggregating_of e.1) (take l.place l.registry)) l.contributions
