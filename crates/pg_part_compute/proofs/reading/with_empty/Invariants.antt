use Rattle.std.proofs.Common.{◌≡◌, ◌++◌, drop}
use Rattle.std.specs.List.Sorted.{IsStrictlySortedBy}
use Rattle.std.specs.Ordering.{nat_cmp}
use Rattle.pg_map.specs.Entries.{HasRisingIds}
use Rattle.pg_part_compute.specs.Lists.{with_empty}
use Rattle.pg_part_compute.proofs.reading.with_empty.Given as goal

abbrev pub invariant-loop-place : goal.invariant-loop-place
invariant-loop-place g l = record {
  made : l.all ++ with_empty l.remaining (drop l.place l.inboxes) ≡ with_empty l.ids l.inboxes;
  ids_rise : IsStrictlySortedBy nat_cmp l.remaining;
  inboxes_rise : HasRisingIds (drop l.place l.inboxes);
}
