use Rattle.std.proofs.Common.{◌≡◌, drop}
use Rattle.pg_graph_rows.specs.RowEdit.{vertex_after}
use Rattle.pg_graph_rows.proofs.vertex.vertex_after.Given as goal

abbrev pub invariant-loop-position : goal.invariant-loop-position
invariant-loop-position l = vertex_after l.draft (drop l.position-index l.edits) ≡ vertex_after l.initial.draft l.edits
