use Rattle.std.proofs.Common.{◌≡◌, ◌++◌, take}
use Rattle.pg_trace_index.proofs.overlay.copy_of.Given as goal

abbrev pub invariant-loop-id : goal.invariant-loop-id
invariant-loop-id l = l.copies.items ≡ l.fn.copies.items ++ take l.id-index l.overlay
