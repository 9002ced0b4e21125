use Rattle.std.proofs.Common.{refl}
use Rattle.pg_part.proofs.Stepping.{next_stats_at}
use Rattle.pg_part.proofs.stats_history.StatsHistory.after.Goals as goal

pub returns : goal.returns
returns g c =
    let before = c.args.self in
    record {
      graph_is = refl;
      member_changes_are = refl;
      old_stats_are = refl;
      next = c.in_ok-next.next;
      stats_are = c.in_ok-push.ensures.items;
      is_next = next_stats_at c.args.registry.now _ before.graph _ before.member_changes.items _ before.stats.items _ before.old_stats.items
          _ _ c.args.part_run.now _ c.args.superstep _ c.args.bundles.now c.in_ok-next.next
          refl c.as_slice.ensures.value c.as_slice-2.ensures.value c.as_slice-3.ensures.value refl refl refl c.in_ok-next.ensures;
    }
