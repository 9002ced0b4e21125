use Rattle.std.proofs.Common.{◌≡◌, ◌++◌, take}
use Rattle.pg_trace_records.proofs.records.add_all.Given as goal

abbrev pub invariant-loop-contribution : goal.invariant-loop-contribution
invariant-loop-contribution l = l.all.items ≡ l.fn.all.items ++ take l.contribution-index l.more
