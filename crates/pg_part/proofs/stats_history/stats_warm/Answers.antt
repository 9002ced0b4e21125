use Rattle.std.proofs.Common.{◌≡◌, true, false, ap, sym, ◌∙◌, subst₂}
use Rattle.std.specs.List.{list_all}
use Rattle.pg_part.specs.StatsHistories.{gathered_of}
use Rattle.pg_part.proofs.Looked.{counted_at, retold_at}
use Rattle.pg_stats.specs.Contributed.{contributes_alike}
use Rattle.pg_part.proofs.stats_history.stats_warm.Goals as goal

pub returns : goal.returns
returns g c =
    let part_run = c.args.part_run.now in
    let old = c.args.old.now in
    let s = c.args.superstep in
    let old_after = c.args.old_after.now in
    let looked = c.trace-trace.ensures in
    let seen = c.changed-changed.ensures in
    record {
      vertex_counts = counted_at old c.trace-trace.result.now part_run.trace s c.changed-changed.result.now part_run.changed
          c.args.before.now.vertex_counts c.args.old_before.now.vertex_counts old_after.vertex_counts c.in_ok-vertex_counts.vertex_counts looked seen c.in_ok-vertex_counts.ensures;
      message_counts = retold_at c.missing.result part_run.missing c.args.graph.now c.args.member_changes.now c.args.old_logs.now s c.partition.result part_run.partition
          c.args.bundles.now old_after.message_counts c.in_ok-message_counts.message_counts c.missing.ensures c.partition.ensures c.in_ok-message_counts.ensures;
      alike = λ all. c.in_ok-gathered.ensures.alike (subst₂ (λ t ids. list_all (contributes_alike old t s) ids ≡ true) (sym looked) (sym seen) all);
      otherwise = λ some. c.in_ok-gathered.ensures.otherwise (subst₂ (λ t ids. list_all (contributes_alike old t s) ids ≡ false) (sym looked) (sym seen) some)
          ∙ ap (λ t. gathered_of c.args.registry.now t s) looked;
    }
