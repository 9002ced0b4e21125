use Rattle.std.proofs.Common.{◌≡◌, ◌≤◌, Err, length, inl, inr, sym, ap, ◌∙◌, ⊎_elim, arith}
use Rattle.pg_graph.specs.Edit.{all_edited, edited, batch_limit}
use Rattle.pg_graph_rows.specs.declared.edit.EditKind.TheVariants.{Memory}
use Rattle.pg_graph.proofs.Batches.{short_enough, next_made, next_refused, all_made, refused_at}
use Rattle.pg_graph.proofs.draft.Draft.of.Goals as goal

pub returns-in-Err-clause-err : goal.returns-in-Err-clause-err
returns-in-Err-clause-err c =
    let edit = c.edit-item.result in
    let short : length c.args.batch.now ≤ batch_limit = omega (arith, ap length c.as_slice-edits.ensures) in
    let refused = λ (why : edited c.loop-edit.draft.1 edit ≡ Err c.in-Err.kind).
    short_enough c.args.graph.now c.args.batch.now short
    ∙ ap (all_edited 1 c.args.graph.now) (sym c.as_slice-edits.ensures)
    ∙ sym c.loop-edit.invariant.edited
    ∙ next_refused c.loop-edit.position c.loop-edit.draft.1 c.as_slice-edits.result.now c.loop-edit.edit-index edit c.loop-edit-test.true
    c.edit-item.is c.in-Err.kind why in
    refused_at c.args.graph.now c.args.batch.now c.loop-edit.position c.in-Err.kind c.at.result c.at.ensures.memory c.at.ensures.edit
    (⊎_elim (λ (m : c.in-Err.kind ≡ Memory). inl m) (λ (why : edited c.loop-edit.draft.1 edit ≡ Err c.in-Err.kind). inr (refused why)) c.in-Err.ensures.err)

pub loop-edit-preserved : goal.loop-edit-preserved
loop-edit-preserved c = record {
  of_graph = c.in-Ok.ensures.ok.0 ∙ c.loop-edit.invariant.of_graph;
  counted = omega arith;
  edited = next_made c.loop-edit.position c.loop-edit.draft.1 c.as_slice-edits.result.now c.loop-edit.edit-index c.edit-item.result
      c.loop-edit-test.true c.edit-item.is c.in-Ok.edited.1 c.in-Ok.ensures.ok.1 ∙ c.loop-edit.invariant.edited;
  short = c.loop-edit.invariant.short;
}

pub returns-clause-ok : goal.returns-clause-ok
returns-clause-ok c = (
  c.loop-edit.invariant.of_graph,
  short_enough c.args.graph.now c.args.batch.now (omega (arith, ap length c.as_slice-edits.ensures))
      ∙ ap (all_edited 1 c.args.graph.now) (sym c.as_slice-edits.ensures)
      ∙ sym c.loop-edit.invariant.edited
      ∙ all_made c.loop-edit.position c.loop-edit.draft.1 c.as_slice-edits.result.now c.loop-edit.edit-index c.loop-edit-test.false,
)
