-- Edits as partial functions on graphs, and a batch as their composition.
use Rattle.std.specs.Prelude.{◌≡◌, ◌⊎◌, ℕ, ◌+◌, cond, List, [], ◌∷◌, length, nat_lt, nat_le, None, Some, is_some}
use Rattle.std.specs.Prelude.{Result, Ok, Err}
use Rattle.pg_graph_rows.specs.EditFault.{memory_fault}
use Rattle.pg_graph_rows.specs.EdgeList.{weight_at, with_edge, without_edge}
use Rattle.pg_graph.specs.Rows.{Rows, row_at, with_row, without_row, vertex_count, edge_count}
use Rattle.pg_graph_rows.specs.declared.row.Row.{Row}
use Rattle.pg_graph_rows.specs.declared.edit.Edit.{Edit}
use Rattle.pg_graph_rows.specs.declared.edit.Edit.TheVariants.{AddVertex, RemoveVertex, SetInput, AddEdge, SetEdge}
use Rattle.pg_graph_rows.specs.declared.edit.Edit.TheVariants.{RemoveEdge}
use Rattle.pg_graph_rows.specs.declared.edit.EditKind.{EditKind}
use Rattle.pg_graph_rows.specs.declared.edit.EditKind.TheVariants.{VertexExists, NoVertex, EdgeExists, NoEdge}
use Rattle.pg_graph_rows.specs.declared.edit.EditKind.TheVariants.{BatchTooLong, Full}
use Rattle.pg_graph_rows.specs.declared.edit.EditFault.{EditFault}

-- no graph has more vertices, or more edges
abbrev pub vertex_limit : ℕ
vertex_limit = 1048576

abbrev pub edge_limit : ℕ
edge_limit = 16777216

-- no batch has more edits
abbrev pub batch_limit : ℕ
batch_limit = 100000

-- a change of the row of a vertex, which has to be there
abbrev pub at_row : ℕ → (Row → Result Row EditKind) → Rows → Result Rows EditKind
at_row id change rows =
    elim (row_at id rows) [
      | None ↦ Err NoVertex
      | Some row ↦ elim (change row) [ Ok changed ↦ Ok (with_row id changed rows) | Err kind ↦ Err kind ]
    ]

-- what one edit makes of a graph, or why it has no result there
unfoldable pub edited : Rows → Edit → Result Rows EditKind
edited rows (AddVertex id input) =
    cond (is_some (row_at id rows)) (Err VertexExists)
    (cond (nat_le vertex_limit (vertex_count rows)) (Err Full)
    (Ok (with_row id (record { input = input; edges = [] }) rows)))
edited rows (RemoveVertex id) = cond (is_some (row_at id rows)) (Ok (without_row id rows)) (Err NoVertex)
edited rows (SetInput id input) = at_row id (λ row. Ok (record row { input = input })) rows
edited rows (AddEdge source target weight) =
    at_row source (λ row. cond (is_some (weight_at target row.edges)) (Err EdgeExists)
    (cond (nat_le edge_limit (edge_count rows)) (Err Full)
    (Ok (record row { edges = with_edge target weight row.edges })))) rows
edited rows (SetEdge source target weight) =
    at_row source (λ row. cond (is_some (weight_at target row.edges))
    (Ok (record row { edges = with_edge target weight row.edges })) (Err NoEdge)) rows
edited rows (RemoveEdge source target) =
    at_row source (λ row. cond (is_some (weight_at target row.edges))
    (Ok (record row { edges = without_edge target row.edges })) (Err NoEdge)) rows

-- the edits one after another, numbered from `position`: the graph that they make, or the first place without a result
unfoldable pub all_edited : ℕ → Rows → List Edit → Result Rows EditFault
all_edited position rows [] = Ok rows
all_edited position rows (edit ∷ edits) =
    elim (edited rows edit) [
      | Ok changed ↦ all_edited (position + 1) changed edits
      | Err kind ↦ Err
          (record { position = position; kind = kind })
    ]

-- what a batch makes of a graph
unfoldable pub batch_edited : Rows → List Edit → Result Rows EditFault
batch_edited rows edits =
    cond (nat_lt batch_limit (length edits)) (Err (record { position = batch_limit + 1; kind = BatchTooLong }))
    (all_edited 1 rows edits)

-- the fault of a batch with too many edits
abbrev pub too_long_fault : EditFault
too_long_fault = record { position = batch_limit + 1; kind = BatchTooLong }

-- out of memory, or the fault of the batch
abbrev pub RefusesBatch : Rows → List Edit → EditFault → Type 0
RefusesBatch rows edits fault = (fault ≡ memory_fault) ⊎ (batch_edited rows edits ≡ Err fault)
