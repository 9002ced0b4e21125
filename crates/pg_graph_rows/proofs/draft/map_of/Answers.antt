use Rattle.std.proofs.Common.{ap, ◌∙◌, arith}
use Rattle.std.proofs.lemmas.Grind.{common_steps}
use Rattle.std.proofs.lemmas.Int.{to_z-of_z}
use Rattle.pg_graph_rows.specs.EdgeList.{with_edge}
use Rattle.pg_map.proofs.Rising.{insert_entry-take}
use Rattle.pg_graph_rows.proofs.draft.map_of.Goals as goal

pub loop-target-preserved : goal.loop-target-preserved
loop-target-preserved c =
    let edge = c.loop-target-item.result in
    let last = ap (with_edge edge.0 edge.1) c.loop-target.invariant
    ∙ insert_entry-take c.args.edges.now c.loop-target.target-index edge c.requires c.loop-target-test.true c.loop-target-item.is in
    let inserted = c.in_ok-insert.ensures.entries in
    grind (arith, common_steps, to_z-of_z)
