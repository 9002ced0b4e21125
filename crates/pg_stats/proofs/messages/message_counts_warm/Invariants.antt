use Rattle.std.proofs.Common.{◌≡◌}
use Rattle.pg_stats.specs.MessageCounts.{dropped_added, dropped_removed, sent_added, sent_removed, vertex_counts_delta}
use Rattle.pg_stats.proofs.messages.message_counts_warm.Given as goal

abbrev pub invariant-loop-to : goal.invariant-loop-to
invariant-loop-to g l = record {
  sent_removed : l.sent.removed ≡ vertex_counts_delta sent_removed l.old_logs l.superstep l.from l.bundles l.to;
  sent_added : l.sent.added ≡ vertex_counts_delta sent_added l.old_logs l.superstep l.from l.bundles l.to;
  dropped_removed : l.dropped.removed ≡ vertex_counts_delta (dropped_removed l.missing l.graph l.member_changes) l.old_logs l.superstep l.from l.bundles l.to;
  dropped_added : l.dropped.added ≡ vertex_counts_delta (dropped_added l.missing l.graph l.member_changes) l.old_logs l.superstep l.from l.bundles l.to;
}
