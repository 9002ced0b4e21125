use Rattle.std.proofs.Common.{◌≡◌, ◌+◌, length}
use Rattle.pg_inbox_bundles.specs.Counting.{messages_where}
use Rattle.pg_inbox_bundles.specs.Sound.{sent_message_lists}
use Rattle.pg_inbox_bundles.proofs.Counted.{is_undeliverable}
use Rattle.pg_inbox_bundles.proofs.counting.undeliverable_sent.Given as goal

abbrev pub invariant-loop-target : goal.invariant-loop-target
invariant-loop-target g l = record {
  rows : l.rows ≡ l.graph;
  count : l.count + messages_where (is_undeliverable l.graph) (sent_message_lists l.remaining) ≡ messages_where (is_undeliverable l.graph) (sent_message_lists l.envelopes);
}

abbrev pub decreases-loop-target : goal.decreases-loop-target
decreases-loop-target g l = length l.remaining
