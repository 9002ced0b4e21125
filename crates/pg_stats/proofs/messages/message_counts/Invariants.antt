use Rattle.std.proofs.Common.{◌≡◌, map, take}
use Rattle.pg_stats.specs.MessageCounts.{message_counts_of}
use Rattle.pg_stats.proofs.messages.message_counts.Given as goal

abbrev pub invariant-loop-logged : goal.invariant-loop-logged
invariant-loop-logged g l = l.message_counts ≡ message_counts_of l.missing l.graph (map (λ b. b.bundle) (take l.logged-index l.bundles))
