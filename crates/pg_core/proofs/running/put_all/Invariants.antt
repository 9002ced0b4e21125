use Rattle.std.proofs.Common.{◌≡◌, length}
use Rattle.pg_core.specs.Progress.{HasPut}
use Rattle.pg_core.proofs.running.put_all.Given as goal

abbrev pub invariant-loop-logged : goal.invariant-loop-logged
invariant-loop-logged g l = record {
  to_is : l.to ≡ length l.yielded;
  put : HasPut l.superstep l.from l.yielded l.fn.logs l.logs;
}
