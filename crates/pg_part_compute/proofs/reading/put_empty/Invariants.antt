use Rattle.std.proofs.Common.{◌≡◌, ◌++◌, take}
use Rattle.pg_part_compute.specs.Lists.{empty_inboxes}
use Rattle.pg_part_compute.proofs.reading.put_empty.Given as goal

abbrev pub invariant-loop-id : goal.invariant-loop-id
invariant-loop-id g l = l.all ≡ l.fn.inboxes ++ empty_inboxes (take l.id-index l.ids)
