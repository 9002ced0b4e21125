use Rattle.std.proofs.Common.{◌≡◌, ◌+◌, drop}
use Rattle.pg_inbox_messages.specs.Grouping.{run_len}
use Rattle.pg_inbox_messages.proofs.grouped.run_len.Given as goal

abbrev pub invariant-loop-place : goal.invariant-loop-place
invariant-loop-place g l = run_len l.target l.items ≡ l.place + run_len l.target (drop l.place l.items)
