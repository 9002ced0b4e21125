use Rattle.std.proofs.Common.{take}
use Rattle.pg_sort.specs.ById.{StandAt}
use Rattle.pg_inbox_bundles.specs.MessageEdits.{message_edits_of}
use Rattle.pg_inbox_bundles.proofs.patching.message_edits_in_order.Given as goal

abbrev pub invariant-loop-place : goal.invariant-loop-place
invariant-loop-place g l = StandAt (message_edits_of l.retracted l.added) (take l.place-index l.order) l.message_edits.items
