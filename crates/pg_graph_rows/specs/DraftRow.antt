-- What a row holds that is being edited.
use Rattle.pg_graph_rows.specs.EdgeList.{EdgeList}
use Rattle.pg_graph_rows.specs.declared.row.Row.{Row}
use Rattle.pg_graph_rows.specs.declared.draft.DraftEdges.{DraftEdges}
use Rattle.pg_graph_rows.specs.declared.draft.DraftEdges.TheVariants.{Kept, Listed, Mapped}
use Rattle.pg_graph_rows.specs.declared.draft.DraftRow.TheInside.{Inside}

abbrev pub edges_in : DraftEdges → EdgeList
edges_in (Kept edges) = edges
edges_in (Listed edges) = edges
edges_in (Mapped edges) = edges.entries

abbrev pub row_in : Inside → Row
row_in row = record { input = row.input; edges = edges_in row.edges }
