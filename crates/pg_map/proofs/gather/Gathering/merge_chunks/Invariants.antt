use Rattle.std.proofs.Common.{◌≡◌, ◌++◌, length}
use Rattle.pg_map.specs.Chunks.{AreChunks, entries_of}
use Rattle.pg_map.specs.Entries.{ChangesRise, HasRisingIds, with_changes}
use Rattle.pg_map.proofs.gather.Gathering.merge_chunks.Given as goal

abbrev pub invariant-loop-chunk : goal.invariant-loop-chunk
invariant-loop-chunk g l = record {
  made : l.self ++ with_changes l.todo (entries_of l.remaining) ≡ l.initial.self ++ with_changes l.changes (entries_of l.chunks);
  chunks : AreChunks l.remaining;
  entries_rise : HasRisingIds (entries_of l.remaining);
  changes_rise : ChangesRise l.todo;
}

abbrev pub decreases-loop-chunk : goal.decreases-loop-chunk
decreases-loop-chunk g l = length l.remaining
