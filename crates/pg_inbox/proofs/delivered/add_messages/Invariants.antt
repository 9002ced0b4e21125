use Rattle.std.proofs.Common.{◌≡◌, ◌++◌, take}
use Rattle.pg_inbox_messages.specs.Contents.{messages}
use Rattle.pg_inbox.proofs.delivered.add_messages.Given as goal

abbrev pub invariant-loop-message : goal.invariant-loop-message
invariant-loop-message g l = l.into.items ≡ l.initial.into.items ++ messages (take l.message-index l.envelopes)
