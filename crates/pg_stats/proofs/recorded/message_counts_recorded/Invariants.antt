use Rattle.std.proofs.Common.{◌≡◌, take}
use Rattle.pg_stats.specs.MessageCounts.{message_counts_recorded}
use Rattle.pg_stats.proofs.recorded.message_counts_recorded.Given as goal

abbrev pub invariant-loop-given : goal.invariant-loop-given
invariant-loop-given g l = l.message_counts ≡ message_counts_recorded l.missing l.graph (take l.given-index l.records)
