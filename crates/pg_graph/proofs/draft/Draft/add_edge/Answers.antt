use Rattle.std.proofs.Common.{◌+◌, Some, refl, sym, ap, ◌∙◌, arith}
use Rattle.std.proofs.lemmas.Int.{to_z-of_z}
use Rattle.std.proofs.lemmas.Result.{err_from_is_err_and}
use Rattle.pg_map.specs.Entries.{with_change, with_changes}
use Rattle.pg_graph_rows.specs.declared.edit.Edit.TheVariants.{AddEdge}
use Rattle.pg_graph_rows.specs.declared.edit.EditKind.TheVariants.{EdgeExists, Full}
use Rattle.pg_graph.proofs.Drafting.{one_more, row_now, put_back, replaced, becomes, refused, refused_row}
use Rattle.pg_graph.proofs.Edited.{AddEdge-missing, AddEdge-exists, AddEdge-full, AddEdge-ok}
use Rattle.pg_graph.proofs.draft.Draft.add_edge.Goals as goal

pub returns-in_err-row-clause-err : goal.returns-in_err-row-clause-err
returns-in_err-row-clause-err c =
    let p = err_from_is_err_and c.from_residual.result c.from_residual.ensures.1 in
    rw (p.1, p.2) (refused_row _ _ _ _ c.self.invariant c.args.source _ c.self.view_is (AddEdge c.args.source c.args.target c.args.weight) _
    (λ gone. AddEdge-missing _ _ gone c.args.target c.args.weight) c.in_err-row.ensures.err)

pub returns-then-there-clause-err : goal.returns-then-there-clause-err
returns-then-there-clause-err c =
    let there = row_now _ _ _ _ c.self.invariant c.args.source _ c.in_ok-row.ensures.row in
    refused _ _ _ _ c.self.invariant c.args.source _ c.self.view_is (AddEdge c.args.source c.args.target c.args.weight) EdgeExists
    (AddEdge-exists _ _ c.in_ok-row.row there c.args.target c.args.weight (sym c.in_ok-there.ensures.was_there ∙ c.if-there.true))

pub returns-then-self-ge-EDGE_LIMIT-clause-err : goal.returns-then-self-ge-EDGE_LIMIT-clause-err
returns-then-self-ge-EDGE_LIMIT-clause-err c =
    let there = row_now _ _ _ _ c.self.invariant c.args.source _ c.in_ok-row.ensures.row in
    refused _ _ _ _ c.self.invariant c.args.source _ c.self.view_is (AddEdge c.args.source c.args.target c.args.weight) Full
    (AddEdge-full _ _ c.in_ok-row.row there c.args.target c.args.weight (sym c.in_ok-there.ensures.was_there ∙ c.if-there.false) (omega (arith, c.self.invariant.edges_counted)))

pub invariant_of-self : goal.invariant_of-self
invariant_of-self c =
    let there = row_now _ _ _ _ c.self.invariant c.args.source _ c.in_ok-row.ensures.row in
    let more = one_more _ _ _ c.if-there.false c.in_ok-there.ensures.degree in
    replaced _ _ _ _ c.self.invariant c.args.source _ _ _ c.take_row.ensures.taken c.in_ok-put.ensures.ok c.in_ok-row.row there c.put_edge.new.self
    (c.self.inside.edges + 1) refl (omega (arith, more)) (omega arith)

pub returns-clause-ok : goal.returns-clause-ok
returns-clause-ok c =
    let there = row_now _ _ _ _ c.self.invariant c.args.source _ c.in_ok-row.ensures.row in
    let fits = c.ranges.weight in
    let made = simp to_z-of_z at c.in_ok-there.ensures.value in
    becomes _ _ _ _ c.self.invariant c.args.source _ c.self.view_is (AddEdge c.args.source c.args.target c.args.weight) c.put.new.map.entries _
    (AddEdge-ok _ _ c.in_ok-row.row there c.args.target c.args.weight (sym c.in_ok-there.ensures.was_there ∙ c.if-there.false) (omega (arith, c.self.invariant.edges_counted)))
    (put_back _ _ _ _ c.self.invariant c.args.source _ _ _ c.take_row.ensures.taken c.in_ok-put.ensures.ok
    ∙ ap (λ row. with_change c.args.source (Some row) (with_changes c.self.inside.changes.entries c.self.inside.graph.now)) made)
