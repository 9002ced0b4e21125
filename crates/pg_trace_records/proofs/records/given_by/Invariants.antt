use Rattle.std.proofs.Common.{◌≡◌, take}
use Rattle.pg_map.specs.Entries.{somes}
use Rattle.pg_trace_records.proofs.records.given_by.Given as goal

abbrev pub invariant-loop-place : goal.invariant-loop-place
invariant-loop-place g l = l.all.items ≡ somes (take l.place l.given)
