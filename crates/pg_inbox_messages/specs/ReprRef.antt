-- What is borrowed of the messages to a target.
use Rattle.std.specs.Prelude.{map, None}
use Rattle.pg_inbox_messages.specs.Contents.{contents_of}
use Rattle.pg_inbox_messages.specs.declared.repr_ref.ReprRef.{ReprRef}
use Rattle.pg_inbox_messages.specs.declared.repr_ref.ReprRef.TheVariants.{Kept, Sent}
use Rattle.pg_inbox_messages.specs.declared.message_list.Contents.{Contents}

-- those of a message list, or some that were sent to one target
abbrev pub contents_repr_ref : {M : Type 0} → ReprRef M → Contents M
contents_repr_ref (Kept message_list) = message_list.now
contents_repr_ref (Sent envelopes) = contents_of None (map (λ l. l.1) envelopes.now)
