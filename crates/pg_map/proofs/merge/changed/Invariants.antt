use Rattle.std.proofs.Common.{◌≡◌, ◌++◌, length}
use Rattle.pg_map.specs.Chunks.{AreGroups, all_of}
use Rattle.pg_map.specs.Entries.{ChangesRise, HasRisingIds, with_changes}
use Rattle.pg_map.proofs.merge.changed.Given as goal

abbrev pub invariant-loop-group : goal.invariant-loop-group
invariant-loop-group g l = record {
  made : l.gathering ++ with_changes l.todo (all_of l.remaining) ≡ with_changes l.changes (all_of l.groups);
  groups : AreGroups l.remaining;
  entries_rise : HasRisingIds (all_of l.remaining);
  changes_rise : ChangesRise l.todo;
}

abbrev pub decreases-loop-group : goal.decreases-loop-group
decreases-loop-group g l = length l.remaining
