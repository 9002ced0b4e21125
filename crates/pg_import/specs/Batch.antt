-- The batch that brings the edges of a list into a graph, and what it makes of the graph.
use Rattle.std.specs.Prelude.{◌≡◌, ◌⊎◌, ℕ, pos, ◌<◌, Bool, if◌then◌else◌, List, [], ◌∷◌, ◌++◌, length, fold, None, Some}
use Rattle.std.specs.Prelude.{is_some, option_and_then, MatchResult}
use Rattle.pg_graph.specs.Edit.{batch_edited, batch_limit, edge_limit, vertex_limit}
use Rattle.pg_graph.specs.Handed.{weight_at, with_edge, Edit, AddVertex, AddEdge, SetEdge, BatchTooLong, Full}
use Rattle.pg_graph.specs.Rows.{Rows, edge_count, row_at, vertex_count, with_row}
use Rattle.pg_import.specs.declared.line.Line.{Line}

-- whether a graph has a vertex
abbrev pub has_vertex : ℕ → Rows → Bool
has_vertex id rows = is_some (row_at id rows)

-- whether a graph has an edge
abbrev pub has_edge : ℕ → ℕ → Rows → Bool
has_edge source target rows = is_some (option_and_then (λ row. weight_at target row.edges) (row_at source rows))

-- a graph with a vertex, which has input 0 and no edges where it wasn't there
unfoldable pub with_vertex : ℕ → Rows → Rows
with_vertex id rows = if has_vertex id rows then rows else with_row id (record { input = pos 0; edges = [] }) rows

-- a graph with the edge of a line, whose source is there
unfoldable pub with_line_edge : Line → Rows → Rows
with_line_edge line rows =
    elim (row_at line.source rows) [
      | None ↦ rows
      | Some row ↦ with_row line.source (record row { edges = with_edge line.target line.weight row.edges }) rows
    ]

-- a graph with both ends of a line
abbrev pub with_ends : Line → Rows → Rows
with_ends line rows = with_vertex line.target (with_vertex line.source rows)

-- a graph with a line, and with lines one after another
abbrev pub with_line : Line → Rows → Rows
with_line line rows = with_line_edge line (with_ends line rows)

abbrev pub with_lines : List Line → Rows → Rows
with_lines lines rows = fold (λ before line. with_line line before) rows lines

-- the edit that a vertex needs, where it isn't there
unfoldable pub vertex_edits : ℕ → Rows → List Edit
vertex_edits id rows = if has_vertex id rows then [] else AddVertex id (pos 0) ∷ []

-- the edit of the edge of a line, by whether it is there
unfoldable pub edge_edit : Line → Rows → Edit
edge_edit line rows =
    if has_edge line.source line.target rows then SetEdge line.source line.target line.weight else AddEdge line.source
    line.target line.weight

-- the edits of a line: its source, then its target, then its edge
abbrev pub line_edits : Line → Rows → List Edit
line_edits line rows =
    vertex_edits line.source rows ++ vertex_edits line.target (with_vertex line.source rows)
    ++ edge_edit line (with_ends line rows) ∷ []

-- the batch of a list of edges, each line on the graph as the ones before it leave it, limits aside
unfoldable pub batch_of : List Line → Rows → List Edit
batch_of [] rows = []
batch_of (line ∷ lines) rows = line_edits line rows ++ batch_of lines (with_line line rows)

-- a batch makes this graph, or is refused, and then only since it is too long or that graph would be too large
abbrev pub Makes : Rows → List Edit → Rows → Type 0
Makes rows batch made = MatchResult (batch_edited rows batch) (λ changed. changed ≡ made)
    (λ fault. ((fault.kind ≡ BatchTooLong) × (batch_limit < length batch))
    ⊎ ((fault.kind ≡ Full) × ((vertex_limit < vertex_count made) ⊎ (edge_limit < edge_count made))))
