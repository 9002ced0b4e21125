use Rattle.std.proofs.Common.{◌≡◌, ◌++◌, drop}
use Rattle.pg_map.specs.Chunks.{AreChunks, entries_of}
use Rattle.pg_map.proofs.gather.Gathering.add_chunks.Given as goal

abbrev pub invariant-loop-chunk : goal.invariant-loop-chunk
invariant-loop-chunk g l = record {
  made : l.self ++ entries_of (drop l.chunk-index l.chunks) ≡ l.initial.self ++ entries_of l.chunks;
  chunks : AreChunks (drop l.chunk-index l.chunks);
}
