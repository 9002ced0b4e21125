use Rattle.std.proofs.Common.{◌≡◌, ◌++◌}
use Rattle.std.specs.Map.{keys_of}
use Rattle.pg_trace_records.proofs.records.add_ids.Given as goal

abbrev pub invariant-loop-id : goal.invariant-loop-id
invariant-loop-id g l = l.ids.items ++ l.id-iterator ≡ l.initial.ids.items ++ keys_of l.map
