use Rattle.std.proofs.Common.{◌≡◌, take}
use Rattle.pg_trace_records.specs.Records.{contributions_of}
use Rattle.pg_trace_records.proofs.records.contributions_among.Given as goal

abbrev pub invariant-loop-record : goal.invariant-loop-record
invariant-loop-record g l = l.all.items ≡ contributions_of (take l.record-index l.records)
