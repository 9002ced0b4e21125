use Rattle.std.proofs.Common.{◌≡◌, ◌++◌}
use Rattle.pg_trace_index.specs.Chunks.{all_of}
use Rattle.pg_trace_index.proofs.overlay.overlay_entries.Given as goal

abbrev pub invariant-loop-chunk : goal.invariant-loop-chunk
invariant-loop-chunk l = l.list.items ++ all_of l.chunk-iterator.rest.items ≡ all_of l.fn.overlay.items
