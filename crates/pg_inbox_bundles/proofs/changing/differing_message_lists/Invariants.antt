use Rattle.std.proofs.Common.{◌+◌, drop, length}
use Rattle.pg_inbox_bundles.proofs.Merging.{AreFoundBefore}
use Rattle.pg_inbox_bundles.proofs.changing.differing_message_lists.Given as goal

abbrev pub invariant-loop-target : goal.invariant-loop-target
invariant-loop-target g l = AreFoundBefore l.old l.new (drop l.old_place l.old) (drop l.new_place l.new) l.changed.items

abbrev pub decreases-loop-target : goal.decreases-loop-target
decreases-loop-target g l = length (drop l.old_place l.old) + length (drop l.new_place l.new)
