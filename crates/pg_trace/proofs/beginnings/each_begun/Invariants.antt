use Rattle.std.proofs.Common.{◌≡◌, ◌++◌}
use Rattle.pg_trace.proofs.beginnings.each_begun.Given as goal

abbrev pub invariant-loop-id : goal.invariant-loop-id
invariant-loop-id g l = l.all.items ++ l.id-iterator.rest.items ≡ l.fn.changes.items
