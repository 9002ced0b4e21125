use Rattle.std.proofs.Common.{◌≡◌, take}
use Rattle.pg_trace_records.specs.RecordChanges.{given_flags}
use Rattle.pg_trace_records.proofs.changes.RecordChanges.places.Given as goal

abbrev pub invariant-loop-place : goal.invariant-loop-place
invariant-loop-place g l = given_flags l.places.items ≡ given_flags (take l.place l.self-inside.entries.items)
