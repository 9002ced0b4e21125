use Rattle.std.proofs.Common.{◌≡◌, take}
use Rattle.pg_map.specs.Entries.{with_changes}
use Rattle.pg_trace_index.specs.Chunks.{AreSound, all_of}
use Rattle.pg_trace_index.specs.Occurrences.{IsNoted}
use Rattle.pg_trace_index.proofs.overlay.note_over.Given as goal

abbrev pub invariant-loop-id : goal.invariant-loop-id
invariant-loop-id l = record {
  overlay : IsNoted l.superstep (take l.id-index l.given)
      (with_changes (all_of l.fn.overlay.items) l.base) (with_changes (all_of l.overlay.items) l.base);
  sound : AreSound l.overlay.items;
  same : l.cursor ≡ l.base;
}
