-- A batch, seen from one vertex: what its edits make of that row.
use Rattle.std.specs.Prelude.{◌≡◌, ℕ, ◌+◌, ◌≤◌, Bool, true, false, nat_eq, List, [], ◌∷◌, Option, Result, Ok, Err}
use Rattle.std.specs.List.{count_by, filter}
use Rattle.pg_graph.specs.Edit.{vertex_limit, edge_limit}
use Rattle.pg_graph_rows.specs.RowEdit.{Places, source_of, vertex_after}
use Rattle.pg_graph.specs.Rows.{Rows, row_at}
use Rattle.pg_graph_rows.specs.declared.row.Row.{Row}
use Rattle.pg_graph_rows.specs.declared.edit.Edit.{Edit}
use Rattle.pg_graph_rows.specs.declared.edit.Edit.TheVariants.{AddVertex, RemoveVertex, SetInput, AddEdge, SetEdge}
use Rattle.pg_graph_rows.specs.declared.edit.Edit.TheVariants.{RemoveEdge}
use Rattle.pg_graph_rows.specs.declared.edit.EditFault.{EditFault}

-- edits numbered from `position`
abbrev pub placed : ℕ → List Edit → Places
placed position [] = []
placed position (edit ∷ edits) = (position, edit) ∷ placed (position + 1) edits

-- those of one vertex
abbrev pub is_of : ℕ → ℕ × Edit → Bool
is_of id edit = nat_eq id (source_of edit.1)

abbrev pub edits_of : ℕ → Places → Places
edits_of id edits = filter (is_of id) edits

-- what a batch makes of the row of a vertex
abbrev pub row_by_batch : ℕ → Rows → List Edit → Result (Option Row) EditFault
row_by_batch id rows edits = vertex_after (row_at id rows) (edits_of id (placed 1 edits))

-- the edits that can add a vertex, and those that can add an edge
abbrev pub adds_vertex : Edit → Bool
adds_vertex (AddVertex id input) = true
adds_vertex (RemoveVertex id) = false
adds_vertex (SetInput id input) = false
adds_vertex (AddEdge source target weight) = false
adds_vertex (SetEdge source target weight) = false
adds_vertex (RemoveEdge source target) = false

abbrev pub adds_edge : Edit → Bool
adds_edge (AddVertex id input) = false
adds_edge (RemoveVertex id) = false
adds_edge (SetInput id input) = false
adds_edge (AddEdge source target weight) = true
adds_edge (SetEdge source target weight) = false
adds_edge (RemoveEdge source target) = false

-- how many there are of each
abbrev pub vertices_added : List Edit → ℕ
vertices_added edits = count_by adds_vertex edits

abbrev pub edges_added : List Edit → ℕ
edges_added edits = count_by adds_edge edits

-- in a graph with so many vertices and edges, so many more of each can't meet a limit
pub record HasRoom (vertices edges vertices_more edges_more : ℕ) : Type 0 where
  pub vertices_fit : vertices + vertices_more ≤ vertex_limit
  pub edges_fit : edges + edges_more ≤ edge_limit

-- each row is what the batch makes of it
abbrev pub AreRowsMade : Rows → List Edit → Rows → Type 0
AreRowsMade rows edits now = (id : ℕ) → row_by_batch id rows edits ≡ Ok (row_at id now)

-- the batch has this fault at one row, and none that comes earlier at any
pub record IsEarliestFault (rows : Rows) (edits : List Edit) (fault : EditFault) : Type 0 where
  pub vertex : ℕ
  pub there : row_by_batch vertex rows edits ≡ Err fault
  pub first : (id : ℕ) (other : EditFault) → row_by_batch id rows edits ≡ Err other → fault.position ≤ other.position
