use Rattle.std.proofs.Common.{◌≡◌, ◌++◌, nat_lt, take}
use Rattle.std.specs.List.{filter}
use Rattle.pg_trace_index.proofs.ran.add_below.Given as goal

abbrev pub invariant-loop-run : goal.invariant-loop-run
invariant-loop-run l = l.into.items ≡ l.fn.into.items ++ filter (λ r. nat_lt r.superstep l.superstep) (take l.run-index l.runs)
