use Rattle.std.proofs.Common.{◌-◌, ◌≤◌, length, take}
use Rattle.pg_trace_index.specs.Occurrences.{IsIndex}
use Rattle.pg_trace.proofs.records.cut_index.Given as goal

abbrev pub invariant-loop-remaining : goal.invariant-loop-remaining
invariant-loop-remaining g l = record {
  low : l.len ≤ l.remaining;
  high : l.remaining ≤ length l.supersteps;
  index : IsIndex (take l.remaining l.supersteps) l.first;
}

abbrev pub decreases-loop-remaining : goal.decreases-loop-remaining
decreases-loop-remaining g l = l.remaining - l.len
