use Rattle.std.proofs.Common.{◌≡◌, take}
use Rattle.pg_graph.specs.RowEdit.{edges_added, vertices_added}
use Rattle.pg_graph.proofs.graph.apply.added_by.Given as goal

abbrev pub invariant-loop-edit : goal.invariant-loop-edit
invariant-loop-edit l = record {
  vertices : l.vertices ≡ vertices_added (take l.edit-index l.edits);
  edges : l.edges ≡ edges_added (take l.edit-index l.edits);
}
