-- What is said of rows, edges and edits, handed on to whoever uses a graph.
pub use Rattle.pg_graph_rows.specs.EdgeList.{EdgeList, IsRising, weight_at, with_edge, without_edge}
pub use Rattle.pg_graph_rows.specs.EditFault.{memory_fault}
pub use Rattle.pg_graph_rows.specs.EditKind.{number_of}
pub use Rattle.pg_graph_rows.specs.Places.{IsGapFor, IsPlaceOf}
pub use Rattle.pg_graph_rows.specs.RowEdit.{source_of}
pub use Rattle.pg_graph_rows.specs.declared.edit.Edit.{Edit}
pub use Rattle.pg_graph_rows.specs.declared.edit.Edit.TheVariants.{AddEdge, AddVertex, RemoveEdge, RemoveVertex}
pub use Rattle.pg_graph_rows.specs.declared.edit.Edit.TheVariants.{SetEdge, SetInput}
pub use Rattle.pg_graph_rows.specs.declared.edit.EditFault.{EditFault}
pub use Rattle.pg_graph_rows.specs.declared.edit.EditKind.{EditKind}
pub use Rattle.pg_graph_rows.specs.declared.edit.EditKind.TheVariants.{BatchTooLong, EdgeExists, Full, NoEdge}
pub use Rattle.pg_graph_rows.specs.declared.edit.EditKind.TheVariants.{NoVertex, VertexExists}
pub use Rattle.pg_graph_rows.specs.declared.row.Row.{Row}
