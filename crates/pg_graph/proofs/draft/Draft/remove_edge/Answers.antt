use Rattle.std.proofs.Common.{◌-◌, Some, refl, sym, ap, ◌∙◌, arith}
use Rattle.std.proofs.lemmas.Result.{err_from_is_err_and}
use Rattle.pg_map.specs.Entries.{with_change, with_changes}
use Rattle.pg_graph_rows.specs.declared.edit.Edit.TheVariants.{RemoveEdge}
use Rattle.pg_graph_rows.specs.declared.edit.EditKind.TheVariants.{NoEdge}
use Rattle.pg_graph.proofs.Drafting.{one_less, row_now, edges_left, put_back, replaced, becomes, refused, refused_row}
use Rattle.pg_graph.proofs.Edited.{RemoveEdge-missing, RemoveEdge-none, RemoveEdge-ok}
use Rattle.pg_graph.proofs.draft.Draft.remove_edge.Goals as goal

pub returns-in_err-row-clause-err : goal.returns-in_err-row-clause-err
returns-in_err-row-clause-err c =
    let p = err_from_is_err_and c.from_residual.result c.from_residual.ensures.1 in
    rw (p.1, p.2) (refused_row _ _ _ _ c.self.invariant c.args.source _ c.self.view_is (RemoveEdge c.args.source c.args.target) _
    (λ gone. RemoveEdge-missing _ _ gone c.args.target) c.in_err-row.ensures.err)

pub returns-then-not-there-clause-err : goal.returns-then-not-there-clause-err
returns-then-not-there-clause-err c =
    let there = row_now _ _ _ _ c.self.invariant c.args.source _ c.in_ok-row.ensures.row in
    refused _ _ _ _ c.self.invariant c.args.source _ c.self.view_is (RemoveEdge c.args.source c.args.target) NoEdge
    (RemoveEdge-none _ _ c.in_ok-row.row there c.args.target (sym c.in_ok-there.ensures.was_there ∙ c.if-not-there.true))

pub overflow_sub-self : goal.overflow_sub-self
overflow_sub-self c =
    let there = row_now _ _ _ _ c.self.invariant c.args.source _ c.in_ok-row.ensures.row in
    let less = one_less _ _ _ c.if-not-there.false c.in_ok-there.ensures.degree in
    omega (arith, less, edges_left _ _ _ _ c.self.invariant c.args.source c.in_ok-row.row there)

pub invariant_of-self : goal.invariant_of-self
invariant_of-self c =
    let there = row_now _ _ _ _ c.self.invariant c.args.source _ c.in_ok-row.ensures.row in
    let less = one_less _ _ _ c.if-not-there.false c.in_ok-there.ensures.degree in
    let remaining = edges_left _ _ _ _ c.self.invariant c.args.source c.in_ok-row.row there in
    replaced _ _ _ _ c.self.invariant c.args.source _ _ _ c.take_row.ensures.taken c.in_ok-put.ensures.ok c.in_ok-row.row there c.remove_edge.new.self
    (c.self.inside.edges - 1) refl (omega (arith, less, remaining)) (omega (arith, c.self.invariant.edges_fit))

pub returns-clause-ok : goal.returns-clause-ok
returns-clause-ok c =
    let there = row_now _ _ _ _ c.self.invariant c.args.source _ c.in_ok-row.ensures.row in
    becomes _ _ _ _ c.self.invariant c.args.source _ c.self.view_is (RemoveEdge c.args.source c.args.target) c.put.new.map.entries _
    (RemoveEdge-ok _ _ c.in_ok-row.row there c.args.target (sym c.in_ok-there.ensures.was_there ∙ c.if-not-there.false))
    (put_back _ _ _ _ c.self.invariant c.args.source _ _ _ c.take_row.ensures.taken c.in_ok-put.ensures.ok
    ∙ ap (λ row. with_change c.args.source (Some row) (with_changes c.self.inside.changes.entries c.self.inside.graph.now)) c.in_ok-there.ensures.value)
