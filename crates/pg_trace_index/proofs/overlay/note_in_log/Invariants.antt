use Rattle.std.proofs.Common.{take}
use Rattle.pg_map.specs.Entries.{with_changes}
use Rattle.pg_trace_index.specs.Chunks.{AreSound, all_of}
use Rattle.pg_trace_index.specs.LogEntry.{AreWithin, chains}
use Rattle.pg_trace_index.specs.Occurrences.{IsNoted}
use Rattle.pg_trace_index.proofs.overlay.note_in_log.Given as goal

abbrev pub invariant-loop-id : goal.invariant-loop-id
invariant-loop-id l = record {
  overlay : IsNoted l.superstep (take l.id-index l.given) (with_changes (all_of l.fn.overlay.items) l.fn.log)
      (with_changes (all_of l.overlay.items) (chains l.earlier.items (all_of l.last.items)));
  sound : AreSound l.overlay.items;
  log : AreSound l.last.items;
  within : AreWithin l.earlier.items (all_of l.last.items);
}
