use Rattle.std.proofs.Common.{◌≡◌, ◌++◌, take}
use Rattle.pg_inbox_messages.specs.Contents.{messages}
use Rattle.pg_inbox.proofs.receiving.add_messages.Given as goal

abbrev pub invariant-loop-place : goal.invariant-loop-place
invariant-loop-place g l = l.into.items ≡ l.initial.into.items ++ messages (take l.place l.message_list.envelopes)
