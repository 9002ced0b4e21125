use Rattle.std.proofs.Common.{◌≡◌, ◌++◌, ◌-◌, ◌≤◌}
use Rattle.pg_core_values.specs.Values.{ran_between}
use Rattle.pg_core_values.proofs.values.add_ran.Given as goal

abbrev pub invariant-loop-place : goal.invariant-loop-place
invariant-loop-place g l = record {
  so_far : l.ids.items ≡ l.fn.ids.items ++ ran_between l.fn.from l.place l.trace;
  most : l.place - l.fn.from ≤ l.fn.to - l.fn.from;
}
