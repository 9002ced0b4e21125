use Rattle.std.proofs.Common.{◌≡◌, ◌++◌, length}
use Rattle.pg_core.specs.Traces.{HaveRetained}
use Rattle.pg_core.proofs.finishing.retained_parts_of.Given as goal

-- what the parts so far left
abbrev pub invariant-loop-part : goal.invariant-loop-part
invariant-loop-part g l = record {
  whole : l.yielded ++ l.part-iterator.rest.items ≡ l.fn.parts.items;
  each : length l.retained_parts.items ≡ length l.yielded;
  retained : HaveRetained l.supersteps l.fn.parts.items (length l.yielded) l.retained_parts.items;
}
