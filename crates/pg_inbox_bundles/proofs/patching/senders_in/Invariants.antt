use Rattle.std.proofs.Common.{◌≡◌, map, take}
use Rattle.pg_inbox_bundles.specs.MessageEdits.{senders_of}
use Rattle.pg_inbox_bundles.proofs.patching.senders_in.Given as goal

abbrev pub invariant-loop-message_edit : goal.invariant-loop-message_edit
invariant-loop-message_edit g l = l.senders.items ≡ senders_of (map (λ m. m.1) (take l.message_edit-index l.message_edits))
