use Rattle.std.proofs.Common.{take}
use Rattle.pg_inbox.specs.SentRow.{IsLastAt}
use Rattle.pg_inbox.proofs.sent_row.last_at.Given as goal

abbrev pub invariant-loop-place : goal.invariant-loop-place
invariant-loop-place g l = IsLastAt l.number (take l.place l.entries) l.found
