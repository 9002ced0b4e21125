use Rattle.std.proofs.Common.{◌≡◌, ◌+◌, drop}
use Rattle.pg_inbox_bundles.specs.Counting.{messages_where}
use Rattle.pg_inbox_bundles.proofs.Counted.{is_undeliverable}
use Rattle.pg_inbox_bundles.proofs.counting.undeliverable_listed.Given as goal

abbrev pub invariant-loop-target : goal.invariant-loop-target
invariant-loop-target g l = record {
  rows : l.rows ≡ l.graph;
  count : l.count + messages_where (is_undeliverable l.graph) (drop l.target-index l.message_lists) ≡ messages_where (is_undeliverable l.graph) l.message_lists;
}
