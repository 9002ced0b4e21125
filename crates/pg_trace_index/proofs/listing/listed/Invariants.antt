use Rattle.std.proofs.Common.{◌≡◌, take}
use Rattle.pg_trace_index.specs.Chunks.{all_of}
use Rattle.pg_trace_index.specs.Listing.{AreParts, parts_of}
use Rattle.pg_trace_index.specs.LogEntry.{chains}
use Rattle.pg_trace_index.proofs.listing.listed.Given as goal

abbrev pub invariant-loop-chunk : goal.invariant-loop-chunk
invariant-loop-chunk l = record {
  parts : AreParts l.runs.items l.parts.items;
  listed : parts_of l.runs.items l.parts.items ≡ chains l.earlier (all_of (take l.chunk-index l.last));
}
