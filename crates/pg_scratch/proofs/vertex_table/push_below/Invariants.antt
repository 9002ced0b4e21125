use Rattle.std.proofs.Common.{length}
use Rattle.pg_scratch.specs.VertexTable.{Takes}
use Rattle.pg_scratch.proofs.vertex_table.push_below.Given as goal

abbrev pub invariant-loop-alloc : goal.invariant-loop-alloc
invariant-loop-alloc g l =
    Takes (g.P.Computation.program l.program) l.id l.initial.waiting.items l.waiting.items l.initial.merged.items l.merged.items

abbrev pub decreases-loop-alloc : goal.decreases-loop-alloc
decreases-loop-alloc g l = length l.waiting.items
