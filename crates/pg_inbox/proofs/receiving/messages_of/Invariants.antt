use Rattle.std.proofs.Common.{◌≡◌, ◌++◌}
use Rattle.pg_inbox_messages.specs.Contents.{messages}
use Rattle.pg_inbox.proofs.receiving.messages_of.Given as goal

abbrev pub invariant-loop-message : goal.invariant-loop-message
invariant-loop-message g l = record {
  so_far : l.inbox.items ≡ messages l.yielded;
  whole : l.yielded ++ l.message-iterator.rest.items ≡ l.fn.envelopes.items;
}
