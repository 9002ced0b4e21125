use Rattle.std.proofs.Common.{◌≡◌, ◌++◌, length}
use Rattle.pg_inbox_bundles.specs.Sound.{sent_message_lists}
use Rattle.pg_inbox_bundles.proofs.message_lists.add_sent.Given as goal

abbrev pub invariant-loop-target : goal.invariant-loop-target
invariant-loop-target g l = l.message_lists.items ++ sent_message_lists l.remaining ≡ l.initial.message_lists.items ++ sent_message_lists l.envelopes

abbrev pub decreases-loop-target : goal.decreases-loop-target
decreases-loop-target g l = length l.remaining
