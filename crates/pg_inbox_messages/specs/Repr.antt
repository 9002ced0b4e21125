-- What a message list holds, as it lies in memory.
use Rattle.std.specs.Prelude.{[], ◌∷◌, None, Some}
use Rattle.std.specs.Arc.{arc_value}
use Rattle.pg_inbox_messages.specs.declared.message_list.Contents.{Contents}
use Rattle.pg_inbox_messages.specs.declared.message_list.Repr.{Repr}
use Rattle.pg_inbox_messages.specs.declared.message_list.Repr.TheVariants.{Single, Combined, Many}

-- one message, which is what it comes to where it is combined
abbrev pub contents_in : {M : Type 0} → Repr M → Contents M
contents_in (Single envelope) = record { envelopes = envelope ∷ []; folded = None }
contents_in (Combined envelope) = record { envelopes = envelope ∷ []; folded = Some envelope.1 }
contents_in (Many contents) = arc_value contents
