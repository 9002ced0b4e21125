use Rattle.std.proofs.Common.{◌≡◌, ◌++◌, map, Some}
use Rattle.pg_trace.proofs.records.all_given.Given as goal

abbrev pub invariant-loop-id : goal.invariant-loop-id
invariant-loop-id g l = l.changes ++ map (λ e. (e.0, Some e.1)) l.id-iterator.rest.items ≡ map (λ e. (e.0, Some e.1)) l.fn.records.items
