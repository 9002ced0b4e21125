use Rattle.std.proofs.Common.{◌≡◌, ◌++◌, take}
use Rattle.std.specs.Map.{keys_of}
use Rattle.pg_trace_records.proofs.records.add_given_ids.Given as goal

abbrev pub invariant-loop-place : goal.invariant-loop-place
invariant-loop-place g l = l.ids.items ≡ l.initial.ids.items ++ keys_of (take l.place l.given)
