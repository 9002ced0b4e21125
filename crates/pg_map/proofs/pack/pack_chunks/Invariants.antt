use Rattle.std.proofs.Common.{◌≡◌, length}
use Rattle.pg_map.specs.Chunks.{AreChunks, entries_of}
use Rattle.pg_map.proofs.pack.pack_chunks.Given as goal

abbrev pub invariant-loop-place : goal.invariant-loop-place
invariant-loop-place g l = record {
  chunks : AreChunks l.chunks.items;
  entries : entries_of l.chunks.items ≡ entries_of l.initial.chunks.items;
  counted : length l.chunks.items ≡ l.place-end;
}
