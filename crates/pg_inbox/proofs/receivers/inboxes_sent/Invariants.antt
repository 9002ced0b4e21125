use Rattle.std.proofs.Common.{◌≡◌, ◌++◌, length}
use Rattle.pg_inbox.specs.Inboxes.{each_inbox}
use Rattle.pg_inbox_bundles.specs.Sound.{sent_message_lists}
use Rattle.pg_inbox.proofs.receivers.inboxes_sent.Given as goal

abbrev pub invariant-loop-target : goal.invariant-loop-target
invariant-loop-target g l = l.inboxes ++ each_inbox (sent_message_lists l.remaining) ≡ each_inbox (sent_message_lists l.envelopes)

abbrev pub decreases-loop-target : goal.decreases-loop-target
decreases-loop-target g l = length l.remaining
