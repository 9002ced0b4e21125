-- Changed rows: what becomes of vertices.
use Rattle.std.specs.Prelude.{◌≡◌, ◌∷◌, ◌++◌, ℕ, [], Err, List, MatchResult, None, Ok, Option, Result, Some, length}
use Rattle.std.specs.Prelude.{map}
use Rattle.pg_graph_rows.specs.EdgeList.{EdgeList}
use Rattle.pg_graph_rows.specs.Packing.{row_of}
use Rattle.pg_graph_rows.specs.RowEdit.{Places, vertex_after}
use Rattle.pg_graph_rows.specs.declared.edit.EditFault.{EditFault}
use Rattle.pg_graph_rows.specs.declared.packing.Waiting.{Waiting}
use Rattle.pg_graph_rows.specs.declared.row.Row.{Row}

-- vertices with the row that each gets, or none where it is removed
abbrev pub RowChanges : Type 0
RowChanges = List (ℕ × Option Row)

-- the rows that wait, as what becomes of their vertices
abbrev pub changes_of : List Waiting → EdgeList → RowChanges
changes_of waiting edges = map (λ w. ((row_of edges w).0, Some (row_of edges w).1)) waiting

-- how many edges a row has, if it is there
abbrev pub degree_of : Option Row → ℕ
degree_of None = 0
degree_of (Some row) = length row.edges

-- what edits make of a vertex is added, and the number is that of its edges; or an edit has no result, and nothing is
abbrev pub Edited : ℕ → Option Row → Places → RowChanges → RowChanges → Result ℕ EditFault → Type 0
Edited id row edits before after result = MatchResult result
    (λ degree. (made : Option Row) × (vertex_after row edits ≡ Ok made) × (after ≡ before ++ (id, made) ∷ [])
    × (degree ≡ degree_of made))
    (λ fault. (vertex_after row edits ≡ Err fault) × (after ≡ before))
