use Rattle.std.proofs.Common.{◌≡◌, ◌++◌}
use Rattle.pg_trace.specs.Beginning.{by_id}
use Rattle.pg_trace.proofs.beginnings.entries_of.Given as goal

abbrev pub invariant-loop-state : goal.invariant-loop-state
invariant-loop-state g l = record {
  so_far : l.entries.items ≡ by_id l.yielded;
  whole : l.yielded ++ l.state-iterator.rest.items ≡ l.fn.states.items;
}
