use Rattle.std.proofs.Common.{◌≡◌, ◌++◌}
use Rattle.pg_map.specs.Entries.{somes}
use Rattle.pg_trace_index.proofs.maps.fresh.Given as goal

abbrev pub invariant-loop-id : goal.invariant-loop-id
invariant-loop-id g l = l.there.items ++ somes l.id-iterator.rest.items ≡ somes l.fn.changes.items
