use Rattle.std.proofs.Common.{drop, ◌+◌, ◌∙◌}
use Rattle.std.proofs.lemmas.List.{drop_all}
use Rattle.pg_map.proofs.Moved.{first_of_rest, moved_one, moved_all}
use Rattle.pg_graph_rows.proofs.packing.RowPack.packed.Goals as goal

pub loop-id-preserved : goal.loop-id-preserved
loop-id-preserved c =
    let entries = c.args.entries.now in
    let i = c.loop-id.id-index in
    moved_one c.loop-id.packing (drop (i + 1) entries) (first_of_rest entries i c.loop-id-test.true c.loop-id-item.is) c.loop-id.invariant c.in_ok-push.ensures

pub returns : goal.returns
returns c =
    c.in_ok-finish.ensures
    ∙ moved_all c.loop-id.packing (drop_all c.loop-id.id-index c.args.entries.now c.loop-id-test.false) c.loop-id.invariant
