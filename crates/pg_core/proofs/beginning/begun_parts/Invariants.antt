use Rattle.std.proofs.Common.{◌≡◌, length}
use Rattle.pg_core.specs.Beginning.{AreFirst, HaveBegun}
use Rattle.pg_core.proofs.beginning.begun_parts.Given as goal

-- the parts so far have begun
abbrev pub invariant-loop-partition : goal.invariant-loop-partition
invariant-loop-partition g l = record {
  each : length l.parts.items ≡ l.partition;
  first : AreFirst l.fn.limits.partitions l.partition l.parts.items;
  begun : HaveBegun (g.P.Computation.program l.program) l.fn.limits.missing l.registry l.graph l.fn.limits.partitions l.partition l.parts.items;
}
