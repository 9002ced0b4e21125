use Rattle.std.proofs.Common.{◌≡◌, take}
use Rattle.pg_stats.specs.MessageCounts.{is_counted, messages_among}
use Rattle.pg_stats.proofs.messages.messages_to_each.Given as goal

abbrev pub invariant-loop-id : goal.invariant-loop-id
invariant-loop-id g l = record {
  same_targets : l.counted ≡ l.fn.counted;
  cursor : l.cursor ≡ l.bundle;
  counted : l.count ≡ messages_among (is_counted l.fn.counted) (take l.id-index l.ids) l.bundle;
}
