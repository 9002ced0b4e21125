use Rattle.std.proofs.Common.{◌≡◌, [], ◌∷◌, ◌++◌, w64, to_z, of_z, ap, ap₂, ◌∙◌, rules}
use Rattle.std.specs.Arc.{arc_value}
use Rattle.pg_graph_rows.specs.Packing.{row_of, rows_of}
use Rattle.pg_graph_rows.proofs.SideBySide.{first_part, made_one, made_all, parts_left}
use Rattle.pg_graph_rows.proofs.packing.add_rows.Goals as goal

pub part-requires : goal.part-requires
part-requires c = first_part c.args.waiting.now c.loop-row.row-index c.loop-row-test.true c.row-item.is _ c.loop-row.invariant.1

pub loop-row-preserved : goal.loop-row-preserved
loop-row-preserved c =
    let waiting = c.args.waiting.now in
    let row = c.row-item.result in
    let before = c.loop-row.rows.items in
    let made = row_of (arc_value c.in_ok-edges.edges).items in
    let kept : to_z w64 (of_z w64 row.input) ≡ row.input = search rules in
    let pushed = c.in_ok-push.ensures.items
    ∙ ap₂ (λ input part. before ++ (row.id, record { input = input; edges = part }) ∷ []) kept c.in_ok-part.ensures in (
      made_one waiting c.loop-row.row-index c.loop-row-test.true c.row-item.is made before c.loop-row.invariant.0 pushed,
      parts_left waiting c.loop-row.row-index c.loop-row-test.true c.row-item.is _ c.loop-row.invariant.1,
    )

pub returns : goal.returns
returns c =
    made_all (row_of (arc_value c.in_ok-edges.edges).items) c.args.waiting.now c.loop-row.row-index c.loop-row.rows.items c.loop-row-test.false
    c.loop-row.invariant.0
    ∙ ap (λ v. c.args.rows.now.items ++ rows_of c.args.waiting.now v.items) c.in_ok-edges.ensures.ok
