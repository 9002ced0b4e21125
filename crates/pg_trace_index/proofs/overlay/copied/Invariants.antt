use Rattle.std.proofs.Common.{◌≡◌, take}
use Rattle.pg_trace_index.specs.Chunks.{all_of}
use Rattle.pg_trace_index.proofs.overlay.copied.Given as goal

abbrev pub invariant-loop-chunk : goal.invariant-loop-chunk
invariant-loop-chunk l = l.copies.items ≡ all_of (take l.chunk-index l.overlay)
