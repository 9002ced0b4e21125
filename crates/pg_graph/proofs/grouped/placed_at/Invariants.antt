use Rattle.std.proofs.Common.{take}
use Rattle.pg_sort.specs.ById.{StandAt}
use Rattle.pg_graph.specs.RowEdit.{placed}
use Rattle.pg_graph.proofs.grouped.placed_at.Given as goal

abbrev pub invariant-loop-place : goal.invariant-loop-place
invariant-loop-place l = StandAt (placed 1 l.edits) (take l.place-index l.order) l.made.items
