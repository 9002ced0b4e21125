use Rattle.std.proofs.Common.{◌≡◌, flat_map, take}
use Rattle.pg_core.specs.Together.{stats_here}
use Rattle.pg_stats.specs.GlobalStats.{aggregators_of, stats_of_all}
use Rattle.pg_core.proofs.combined_stats.combined_stats.Given as goal

abbrev pub invariant-loop-part : goal.invariant-loop-part
invariant-loop-part g l =
    l.stats ≡ stats_of_all (aggregators_of l.registry) l.visible (flat_map stats_here (take l.part-index l.parts))
