use Rattle.std.proofs.Common.{◌≡◌, take}
use Rattle.std.specs.Arc.{arc_value}
use Rattle.pg_trace_index.specs.Listing.{parts_of}
use Rattle.pg_trace_index.proofs.listing.parted.Given as goal

abbrev pub invariant-loop-id : goal.invariant-loop-id
invariant-loop-id l = l.entries.items ≡ parts_of (arc_value l.shared).items (take l.id-index l.parts)
