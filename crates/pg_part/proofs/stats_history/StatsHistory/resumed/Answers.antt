use Rattle.std.proofs.Common.{refl, subst}
use Rattle.pg_part.specs.StatsHistories.{IsStatsHistoryByRecords}
use Rattle.pg_part.proofs.Stepping.{stats_there}
use Rattle.pg_part.proofs.stats_history.StatsHistory.resumed.Goals as goal

pub returns : goal.returns
returns g c =
    let before = c.args.self in
    record {
      graph_is = refl;
      member_changes_are = refl;
      old_stats_are = refl;
      next = c.in_ok-next.next;
      stats_are = c.in_ok-push.ensures.items;
      is_next = λ earlier at.
          subst (λ b. IsStatsHistoryByRecords c.args.registry.now before.graph c.args.part_run.now c.args.superstep b c.in_ok-next.next)
          (stats_there before.stats.items c.number.ensures c.index-before.ensures at) c.in_ok-next.ensures;
    }
