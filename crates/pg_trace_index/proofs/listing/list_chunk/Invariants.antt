use Rattle.std.proofs.Common.{◌≡◌, ◌++◌, take}
use Rattle.pg_trace_index.specs.Listing.{AreParts, parts_of}
use Rattle.pg_trace_index.specs.LogEntry.{chains}
use Rattle.pg_trace_index.proofs.listing.list_chunk.Given as goal

abbrev pub invariant-loop-id : goal.invariant-loop-id
invariant-loop-id l = record {
  parts : AreParts l.runs.items l.parts.items;
  listed : parts_of l.runs.items l.parts.items ≡ parts_of l.fn.runs.items l.fn.parts.items ++ chains l.earlier (take l.id-index l.last);
}
