use Rattle.std.proofs.Common.{◌≡◌, take}
use Rattle.pg_part_routing.specs.Starting.{first_changes}
use Rattle.pg_part_routing.proofs.begin.first_changes.Given as goal

abbrev pub invariant-loop-id : goal.invariant-loop-id
invariant-loop-id g l = record {
  changes : l.changes.items ≡ first_changes (g.P.Computation.program l.program) l.graph l.share.partitions l.share.partition (take l.id-index l.ids);
  same : l.rows ≡ l.graph;
}
