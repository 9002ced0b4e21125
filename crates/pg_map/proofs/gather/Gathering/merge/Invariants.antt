use Rattle.std.proofs.Common.{◌≡◌, ◌+◌, ◌++◌, length}
use Rattle.pg_map.specs.Entries.{ChangesRise, HasRisingIds, with_changes}
use Rattle.pg_map.proofs.gather.Gathering.merge.Given as goal

abbrev pub invariant-loop-change : goal.invariant-loop-change
invariant-loop-change g l = record {
  made : l.self ++ with_changes l.todo l.remaining ≡ l.initial.self ++ with_changes l.changes l.entries;
  entries_rise : HasRisingIds l.remaining;
  changes_rise : ChangesRise l.todo;
}

abbrev pub decreases-loop-change : goal.decreases-loop-change
decreases-loop-change g l = length l.todo + length l.remaining
