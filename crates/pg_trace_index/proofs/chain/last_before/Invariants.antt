use Rattle.std.proofs.Common.{◌≡◌, ◌≤◌, length}
use Rattle.pg_trace_index.specs.LogEntry.{back, first_below}
use Rattle.pg_trace_index.proofs.chain.last_before.Given as goal

abbrev pub invariant-loop-at : goal.invariant-loop-at
invariant-loop-at l = record {
  found : first_below l.limit (back l.earlier l.remaining l.at) ≡ first_below l.limit (back l.earlier (length l.earlier) l.fn.logged.before);
  within : l.remaining ≤ length l.earlier;
}

abbrev pub decreases-loop-at : goal.decreases-loop-at
decreases-loop-at l = l.remaining
