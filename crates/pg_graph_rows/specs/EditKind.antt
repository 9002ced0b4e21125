-- The numbers of the refusals of a batch.
use Rattle.std.specs.Prelude.{ℕ}
use Rattle.pg_graph_rows.specs.declared.edit.EditKind.{EditKind}
use Rattle.pg_graph_rows.specs.declared.edit.EditKind.TheVariants.{Memory, VertexExists, NoVertex, EdgeExists, NoEdge}
use Rattle.pg_graph_rows.specs.declared.edit.EditKind.TheVariants.{BatchTooLong, Full}

abbrev pub number_of : EditKind → ℕ
number_of Memory = 1
number_of VertexExists = 2
number_of NoVertex = 3
number_of EdgeExists = 4
number_of NoEdge = 5
number_of BatchTooLong = 6
number_of Full = 7
