use Rattle.std.proofs.Common.{take}
use Rattle.pg_trace_records.proofs.Senders.{AreWarm}
use Rattle.pg_trace_records.proofs.changes.RecordChanges.all_sent.Given as goal

abbrev pub invariant-loop-place : goal.invariant-loop-place
invariant-loop-place g l = AreWarm l.self-inside.sent.items l.self-inside.contributed.items (take l.place l.self-inside.entries.items) l.senders.items
