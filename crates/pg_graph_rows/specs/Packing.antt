-- Rows whose edges are gathered in one list.
use Rattle.std.specs.Prelude.{ℕ, List, map}
use Rattle.std.specs.List.{AllByRecursion}
use Rattle.pg_graph_rows.specs.EdgeList.{EdgeList}
use Rattle.pg_graph_rows.specs.Edges.{IsPart, part_of}
use Rattle.pg_graph_rows.specs.declared.row.Row.{Row}
use Rattle.pg_graph_rows.specs.declared.packing.Waiting.{Waiting}

-- the row that waits, with its part of the edges
abbrev pub row_of : EdgeList → Waiting → ℕ × Row
row_of edges waiting = (
  waiting.id,
  record {
    input = waiting.input;
    edges = part_of waiting.first waiting.degree
        edges;
  },
)

abbrev pub rows_of : List Waiting → EdgeList → List (ℕ × Row)
rows_of waiting edges = map (row_of edges) waiting

-- each has its part
abbrev pub AreParts : List Waiting → EdgeList → Type 0
AreParts waiting edges = AllByRecursion (λ w. IsPart w.first w.degree edges) waiting
