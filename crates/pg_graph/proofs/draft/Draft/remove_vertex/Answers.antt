use Rattle.std.proofs.Common.{◌-◌, refl, arith}
use Rattle.std.proofs.lemmas.Result.{err_from_is_err_and}
use Rattle.pg_graph_rows.specs.declared.edit.Edit.TheVariants.{RemoveVertex}
use Rattle.pg_graph.proofs.Drafting.{row_now, vertex_left, edges_left, put_back, removed, becomes, refused_row}
use Rattle.pg_graph.proofs.Edited.{RemoveVertex-missing, RemoveVertex-ok}
use Rattle.pg_graph.proofs.draft.Draft.remove_vertex.Goals as goal

pub returns-in_err-row-clause-err : goal.returns-in_err-row-clause-err
returns-in_err-row-clause-err c =
    let p = err_from_is_err_and c.from_residual.result c.from_residual.ensures.1 in
    rw (p.1, p.2) (refused_row _ _ _ _ c.self.invariant c.args.id _ c.self.view_is (RemoveVertex c.args.id) _
    (RemoveVertex-missing _ _) c.in_err-row.ensures.err)

pub overflow_sub-self : goal.overflow_sub-self
overflow_sub-self c =
    let there = row_now _ _ _ _ c.self.invariant c.args.id _ c.in_ok-row.ensures.row in
    vertex_left _ _ _ _ c.self.invariant c.args.id c.in_ok-row.row there

pub overflow_sub-self-2 : goal.overflow_sub-self-2
overflow_sub-self-2 c =
    let there = row_now _ _ _ _ c.self.invariant c.args.id _ c.in_ok-row.ensures.row in
    omega (arith, c.degree.ensures, edges_left _ _ _ _ c.self.invariant c.args.id c.in_ok-row.row there)

pub invariant_of-self : goal.invariant_of-self
invariant_of-self c =
    let there = row_now _ _ _ _ c.self.invariant c.args.id _ c.in_ok-row.ensures.row in
    let some = vertex_left _ _ _ _ c.self.invariant c.args.id c.in_ok-row.row there in
    let remaining = edges_left _ _ _ _ c.self.invariant c.args.id c.in_ok-row.row there in
    removed _ _ _ _ c.self.invariant c.args.id _ _ _ c.take_row.ensures.taken c.in_ok-put.ensures.ok c.in_ok-row.row there
    (c.self.inside.vertices - 1) (c.self.inside.edges - c.degree.result) refl (omega (arith, some)) (omega (arith, c.degree.ensures, remaining))

pub returns-clause-ok : goal.returns-clause-ok
returns-clause-ok c =
    let there = row_now _ _ _ _ c.self.invariant c.args.id _ c.in_ok-row.ensures.row in
    becomes _ _ _ _ c.self.invariant c.args.id _ c.self.view_is (RemoveVertex c.args.id) c.put.new.map.entries _
    (RemoveVertex-ok _ _ c.in_ok-row.row there)
    (put_back _ _ _ _ c.self.invariant c.args.id _ _ _ c.take_row.ensures.taken c.in_ok-put.ensures.ok)
