use Rattle.std.proofs.Common.{◌+◌, Some, is_some, sym, ap, ◌∙◌, subst, arith}
use Rattle.std.proofs.lemmas.Int.{to_z-of_z}
use Rattle.pg_map.specs.Entries.{with_change, with_changes}
use Rattle.pg_graph.specs.Draft.{IsCounted}
use Rattle.pg_graph.specs.Rows.{row_at}
use Rattle.pg_graph_rows.specs.declared.edit.Edit.TheVariants.{AddVertex}
use Rattle.pg_graph_rows.specs.declared.edit.EditKind.TheVariants.{VertexExists, Full}
use Rattle.pg_graph.proofs.Drafting.{none_there, put_now, refused, becomes, added}
use Rattle.pg_graph.proofs.Edited.{AddVertex-exists, AddVertex-full, AddVertex-ok}
use Rattle.pg_graph.proofs.draft.Draft.add_vertex.Goals as goal

pub returns-then-has_vertex-clause-err : goal.returns-then-has_vertex-clause-err
returns-then-has_vertex-clause-err c =
    let there = ap (λ p. is_some (row_at c.args.id p.1)) c.self.view_is ∙ sym c.if-has_vertex.ensures in
    refused _ _ _ _ c.self.invariant c.args.id _ c.self.view_is (AddVertex c.args.id c.args.input) VertexExists (AddVertex-exists _ _ c.args.input there)

pub returns-then-self-ge-VERTEX_LIMIT-clause-err : goal.returns-then-self-ge-VERTEX_LIMIT-clause-err
returns-then-self-ge-VERTEX_LIMIT-clause-err c =
    let gone = ap (λ p. is_some (row_at c.args.id p.1)) c.self.view_is ∙ sym c.if-has_vertex.ensures in
    refused _ _ _ _ c.self.invariant c.args.id _ c.self.view_is (AddVertex c.args.id c.args.input) Full
    (AddVertex-full _ _ c.args.input gone (omega (arith, c.self.invariant.vertices_counted)))

pub invariant_of-self : goal.invariant_of-self
invariant_of-self c =
    let gone = ap (λ p. is_some (row_at c.args.id p.1)) c.self.view_is ∙ sym c.if-has_vertex.ensures in
    subst (λ l. IsCounted c.self.inside.graph.now l (c.self.inside.vertices + 1) c.self.inside.edges) (sym c.in_ok-put.ensures.ok)
    (added _ _ _ _ c.self.invariant c.args.id c.new.result (none_there _ gone) (ap (λ row. row.edges) c.new.ensures) (omega arith))

pub returns-clause-ok : goal.returns-clause-ok
returns-clause-ok c =
    let gone = ap (λ p. is_some (row_at c.args.id p.1)) c.self.view_is ∙ sym c.if-has_vertex.ensures in
    let fits = c.ranges.input in
    let made = simp to_z-of_z at c.new.ensures in
    becomes _ _ _ _ c.self.invariant c.args.id _ c.self.view_is (AddVertex c.args.id c.args.input) c.put.new.map.entries _
    (AddVertex-ok _ _ c.args.input gone (omega (arith, c.self.invariant.vertices_counted)))
    (ap (λ l. with_changes l c.self.inside.graph.now) c.in_ok-put.ensures.ok ∙ put_now _ _ _ _ c.self.invariant c.args.id _
    ∙ ap (λ row. with_change c.args.id (Some row) (with_changes c.self.inside.changes.entries c.self.inside.graph.now)) made)
