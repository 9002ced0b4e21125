use Rattle.std.proofs.Common.{subst}
use Rattle.std.proofs.lemmas.Result.{IfOk-weaker}
use Rattle.pg_sort.specs.ById.{StandAt}
use Rattle.pg_graph.specs.Grouped.{AreGrouped}
use Rattle.pg_graph.specs.RowEdit.{placed}
use Rattle.pg_graph.proofs.Taken.{grouped_by_id}
use Rattle.pg_graph.proofs.grouped.by_vertex.Goals as goal

pub returns : goal.returns
returns c =
    let edits = c.as_slice-edits.result.now in
    let order = c.in_ok-order.order.items in
    IfOk-weaker c.placed_at.result _ (λ made. AreGrouped c.args.batch.now made.items)
    (λ made zip. subst (λ edits. AreGrouped edits made.items) c.as_slice-edits.ensures
    (grouped_by_id edits order made.items c.in_ok-order.ensures (subst (λ order. StandAt (placed 1 edits) order made.items) c.as_slice.ensures.value zip)))
    c.placed_at.ensures
