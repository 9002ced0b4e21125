use Rattle.std.proofs.Common.{◌≡◌, ◌++◌}
use Rattle.pg_trace.proofs.records.all_changed.Given as goal

abbrev pub invariant-loop-id : goal.invariant-loop-id
invariant-loop-id g l = l.changes ++ l.id-iterator.rest.items ≡ l.fn.replaced.items
