use Rattle.std.proofs.Common.{◌≡◌, ◌≤◌, ◌++◌, length}
use Rattle.pg_trace_index.specs.History.{steps_of}
use Rattle.pg_trace_index.specs.LogEntry.{back}
use Rattle.pg_trace_index.proofs.listing.add_back.Given as goal

abbrev pub invariant-loop-at : goal.invariant-loop-at
invariant-loop-at l = record {
  runs : steps_of l.runs.items ++ back l.earlier l.remaining l.at ≡ steps_of l.fn.runs.items ++ back l.earlier (length l.earlier) l.fn.before;
  within : l.remaining ≤ length l.earlier;
}

abbrev pub decreases-loop-at : goal.decreases-loop-at
decreases-loop-at l = l.remaining
