use Rattle.std.proofs.Common.{◌≡◌, take}
use Rattle.pg_trace_records.specs.Records.{unhalted_after}
use Rattle.pg_trace_records.proofs.records.unhalted_among.Given as goal

abbrev pub invariant-loop-id : goal.invariant-loop-id
invariant-loop-id g l = l.unhalted.items ≡ unhalted_after (take l.id-index l.records)
