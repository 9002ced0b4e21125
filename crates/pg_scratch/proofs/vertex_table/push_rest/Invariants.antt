use Rattle.std.proofs.Common.{◌≡◌, ◌++◌, map}
use Rattle.pg_model.specs.Superstep.{made}
use Rattle.pg_scratch.proofs.vertex_table.push_rest.Given as goal

abbrev pub invariant-loop-id : goal.invariant-loop-id
invariant-loop-id g l =
    l.merged.items ++ map (made (g.P.Computation.program l.program)) l.id-iterator.rest.items
    ≡ l.initial.merged.items ++ map (made (g.P.Computation.program l.program)) l.fn.waiting.items
