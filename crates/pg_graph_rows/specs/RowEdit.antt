-- What edits make of one row.
use Rattle.std.specs.Prelude.{ℕ, cond, List, [], ◌∷◌, Option, None, Some, is_some, Result, Ok, Err}
use Rattle.pg_graph_rows.specs.EdgeList.{weight_at, with_edge, without_edge}
use Rattle.pg_graph_rows.specs.declared.row.Row.{Row}
use Rattle.pg_graph_rows.specs.declared.edit.Edit.{Edit}
use Rattle.pg_graph_rows.specs.declared.edit.Edit.TheVariants.{AddVertex, RemoveVertex, SetInput, AddEdge, SetEdge}
use Rattle.pg_graph_rows.specs.declared.edit.Edit.TheVariants.{RemoveEdge}
use Rattle.pg_graph_rows.specs.declared.edit.EditKind.{EditKind}
use Rattle.pg_graph_rows.specs.declared.edit.EditKind.TheVariants.{VertexExists, NoVertex, EdgeExists, NoEdge}
use Rattle.pg_graph_rows.specs.declared.edit.EditFault.{EditFault}

-- the vertex whose row an edit changes
abbrev pub source_of : Edit → ℕ
source_of (AddVertex id input) = id
source_of (RemoveVertex id) = id
source_of (SetInput id input) = id
source_of (AddEdge source target weight) = source
source_of (SetEdge source target weight) = source
source_of (RemoveEdge source target) = source

-- what an edit makes of a row that is there, or why it has no result, where no limit is met
abbrev pub row_edited : Row → Edit → Result (Option Row) EditKind
row_edited row (AddVertex id input) = Err VertexExists
row_edited row (RemoveVertex id) = Ok None
row_edited row (SetInput id input) = Ok (Some (record row { input = input }))
row_edited row (AddEdge source target weight) =
    cond (is_some (weight_at target row.edges)) (Err EdgeExists)
    (Ok (Some (record row { edges = with_edge target weight row.edges })))
row_edited row (SetEdge source target weight) =
    cond (is_some (weight_at target row.edges)) (Ok (Some (record row { edges = with_edge target weight row.edges })))
    (Err NoEdge)
row_edited row (RemoveEdge source target) =
    cond (is_some (weight_at target row.edges)) (Ok (Some (record row { edges = without_edge target row.edges })))
    (Err NoEdge)

-- the same where there is no row
abbrev pub none_edited : Edit → Result (Option Row) EditKind
none_edited (AddVertex id input) = Ok (Some (record { input = input; edges = [] }))
none_edited (RemoveVertex id) = Err NoVertex
none_edited (SetInput id input) = Err NoVertex
none_edited (AddEdge source target weight) = Err NoVertex
none_edited (SetEdge source target weight) = Err NoVertex
none_edited (RemoveEdge source target) = Err NoVertex

abbrev pub vertex_edited : Option Row → Edit → Result (Option Row) EditKind
vertex_edited None edit = none_edited edit
vertex_edited (Some row) edit = row_edited row edit

-- edits with their places
abbrev pub Places : Type 0
Places = List (ℕ × Edit)

-- what edits of a vertex make of its row one after another, or the first place without a result
abbrev pub vertex_after : Option Row → Places → Result (Option Row) EditFault
vertex_after row [] = Ok row
vertex_after row (edit ∷ edits) =
    elim (vertex_edited row edit.1)
    [ Ok changed ↦ vertex_after changed edits | Err kind ↦ Err (record { position = edit.0; kind = kind }) ]
