use Rattle.std.proofs.Common.{◌≡◌, take}
use Rattle.pg_trace.proofs.records.shared.Given as goal

abbrev pub invariant-loop-records : goal.invariant-loop-records
invariant-loop-records g l = l.shared.items ≡ take l.records-index l.supersteps
