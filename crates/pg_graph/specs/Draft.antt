-- A draft: a graph, and what its edits so far have made of it.
use Rattle.std.specs.Prelude.{◌≡◌, ℕ, ◌≤◌, ◌⊎◌, Ok, Err}
use Rattle.pg_map.specs.Entries.{ChangesRise, with_changes}
use Rattle.pg_graph_rows.specs.ChangedRows.{RowChanges}
use Rattle.pg_graph.specs.Edit.{edited, vertex_limit, edge_limit}
use Rattle.pg_graph.specs.Rows.{Rows, HasRisingIds, vertex_count, edge_count}
use Rattle.pg_graph.specs.declared.draft.RowChanges.{RowChanges as Changing}
use Rattle.pg_graph.specs.declared.draft.Draft.TheInside.{Inside}
use Rattle.pg_graph_rows.specs.declared.edit.Edit.{Edit}
use Rattle.pg_graph_rows.specs.declared.edit.EditKind.{EditKind}
use Rattle.pg_graph_rows.specs.declared.edit.EditKind.TheVariants.{Memory}

-- the graph with the changes
abbrev pub rows_in : Inside → Rows
rows_in draft = with_changes draft.changes.entries draft.graph.now

-- the draft's numbers are those of the graph with the changes
pub record IsCounted (graph : Rows) (changes : RowChanges) (vertices edges : ℕ) : Type 0 where
  pub graph_rises : HasRisingIds graph
  pub changes_rise : ChangesRise changes
  pub vertices_counted : vertices ≡ vertex_count (with_changes changes graph)
  pub edges_counted : edges ≡ edge_count (with_changes changes graph)
  pub vertices_fit : vertices ≤ vertex_limit
  pub edges_fit : edges ≤ edge_limit

abbrev pub IsSound : Inside → Type 0
IsSound draft = IsCounted draft.graph.now draft.changes.entries draft.vertices draft.edges

-- one draft becomes another by an edit of its graph
abbrev pub BecomesBy : Edit → Rows × Rows → Rows × Rows → Type 0
BecomesBy edit before after = (after.0 ≡ before.0) × (edited before.1 edit ≡ Ok after.1)

-- out of memory, or why the edit has no result there
abbrev pub RefusesEdit : Edit → Rows × Rows → EditKind → Type 0
RefusesEdit edit before kind = (kind ≡ Memory) ⊎ (edited before.1 edit ≡ Err kind)

-- the changes make one graph of another, and the number is that of its edges
pub record Makes (graph now : Rows) (changes : Changing) : Type 0 where
  pub graph_rises : HasRisingIds graph
  pub changes_rise : ChangesRise changes.rows.items
  pub made : with_changes changes.rows.items graph ≡ now
  pub edges_counted : changes.edges ≡ edge_count now
  pub vertices_fit : vertex_count now ≤ vertex_limit
  pub edges_fit : edge_count now ≤ edge_limit
