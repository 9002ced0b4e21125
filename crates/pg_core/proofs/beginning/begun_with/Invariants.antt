use Rattle.std.proofs.Common.{◌≡◌, ◌++◌, length}
use Rattle.pg_core.specs.Beginning.{AreFirst, HaveBegunWith}
use Rattle.pg_core.proofs.beginning.begun_with.Given as goal

-- the parts so far have begun
abbrev pub invariant-loop-retained : goal.invariant-loop-retained
invariant-loop-retained g l = record {
  partition_is : l.partition ≡ length l.yielded;
  whole : l.yielded ++ l.retained-iterator.rest.items ≡ l.fn.retained_parts.items;
  each : length l.parts.items ≡ l.partition;
  first : AreFirst l.fn.limits.partitions l.partition l.parts.items;
  begun : HaveBegunWith (g.P.Computation.program l.program) l.fn.limits.missing l.registry l.graph l.touched
      l.member_changes l.fn.retained_parts.items l.fn.limits.partitions l.partition l.parts.items;
}
