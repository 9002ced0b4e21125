use Rattle.std.proofs.Common.{◌≡◌, ◌≤◌, ℕ, [], ◌∷◌, ◌++◌, ap, sym, ◌∙◌, subst}
use Rattle.pg_map.specs.Entries.{ChangesRise, with_changes}
use Rattle.pg_graph_rows.specs.ChangedRows.{RowChanges}
use Rattle.pg_graph.specs.Draft.{IsCounted, Makes}
use Rattle.pg_graph.specs.Edit.{edge_limit, vertex_limit}
use Rattle.pg_graph.specs.Rows.{Rows}
use Rattle.pg_graph.specs.declared.draft.RowChanges.{RowChanges as Changing}
use Rattle.pg_map.proofs.Moved.{moved_all, moved_one}
use Rattle.pg_graph.proofs.draft.Draft.into_changes.Goals as goal

makes : (graph : Rows) (changes : RowChanges) (vertices : ℕ) (made : Changing) → IsCounted graph changes vertices made.edges
    → made.rows.items ≡ changes → Makes graph (with_changes changes graph) made
makes graph changes vertices made are same = record {
  graph_rises = are.graph_rises;
  changes_rise = subst ChangesRise (sym same) are.changes_rise;
  made = ap (λ l. with_changes l graph) same;
  edges_counted = are.edges_counted;
  vertices_fit = subst (λ n. n ≤ vertex_limit) are.vertices_counted are.vertices_fit;
  edges_fit = subst (λ n. n ≤ edge_limit) are.edges_counted are.edges_fit;
}

pub loop-id-preserved : goal.loop-id-preserved
loop-id-preserved c =
    let before : RowChanges = c.loop-id.changes.items in
    moved_one before c.next.new.self c.in-Some.ensures.steps c.loop-id.invariant
    (c.in_ok-push.ensures.items ∙ ap (λ change. before ++ (c.in-Some.id, change) ∷ []) c.in_ok-finished.ensures)

pub returns : goal.returns
returns c =
    let inside = c.self.inside in
    let made : Changing = record { rows = c.loop-id.changes; edges = inside.edges } in
    let same = moved_all c.loop-id.changes.items c.in-None.ensures.steps.0 c.loop-id.invariant in
    subst (λ draft. Makes draft.0 draft.1 made) c.self.view_is (makes inside.graph.now inside.changes.entries inside.vertices made c.self.invariant same)
