use Rattle.std.proofs.Common.{Some, refl, ap, ◌∙◌, arith, length}
use Rattle.std.proofs.lemmas.Int.{to_z-of_z}
use Rattle.std.proofs.lemmas.Result.{err_from_is_err_and}
use Rattle.pg_map.specs.Entries.{with_change, with_changes}
use Rattle.pg_graph_rows.specs.declared.edit.Edit.TheVariants.{SetInput}
use Rattle.pg_graph.proofs.Drafting.{row_now, put_back, replaced, becomes, refused_row}
use Rattle.pg_graph.proofs.Edited.{SetInput-missing, SetInput-ok}
use Rattle.pg_graph.proofs.draft.Draft.set_input.Goals as goal

pub returns-in_err-row-clause-err : goal.returns-in_err-row-clause-err
returns-in_err-row-clause-err c =
    let p = err_from_is_err_and c.from_residual.result c.from_residual.ensures.1 in
    rw (p.1, p.2) (refused_row _ _ _ _ c.self.invariant c.args.id _ c.self.view_is (SetInput c.args.id c.args.input) _
    (λ gone. SetInput-missing _ _ gone c.args.input) c.in_err-row.ensures.err)

pub invariant_of-self : goal.invariant_of-self
invariant_of-self c =
    let there = row_now _ _ _ _ c.self.invariant c.args.id _ c.in_ok-row.ensures.row in
    let same = ap (λ row. length row.edges) c.set_input.ensures in
    replaced _ _ _ _ c.self.invariant c.args.id _ _ _ c.take_row.ensures.taken c.in_ok-put.ensures.ok c.in_ok-row.row there c.set_input.new.self
    c.self.inside.edges refl (omega (arith, same)) c.self.invariant.edges_fit

pub returns-clause-ok : goal.returns-clause-ok
returns-clause-ok c =
    let there = row_now _ _ _ _ c.self.invariant c.args.id _ c.in_ok-row.ensures.row in
    let fits = c.ranges.input in
    let made = simp to_z-of_z at c.set_input.ensures in
    becomes _ _ _ _ c.self.invariant c.args.id _ c.self.view_is (SetInput c.args.id c.args.input) c.put.new.map.entries _
    (SetInput-ok _ _ c.in_ok-row.row there c.args.input)
    (put_back _ _ _ _ c.self.invariant c.args.id _ _ _ c.take_row.ensures.taken c.in_ok-put.ensures.ok
    ∙ ap (λ row. with_change c.args.id (Some row) (with_changes c.self.inside.changes.entries c.self.inside.graph.now)) made)
