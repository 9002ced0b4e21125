use Rattle.std.proofs.Common.{◌≡◌, ◌++◌, map}
use Rattle.pg_model.specs.Run.{beginning}
use Rattle.pg_scratch.proofs.beginning.with_inboxes_of.Given as goal

abbrev pub invariant-loop-id : goal.invariant-loop-id
invariant-loop-id g l =
    l.with_inboxes.items ++ map (beginning (g.P.Computation.program l.program)) l.id-iterator ≡ map (beginning (g.P.Computation.program l.program)) l.graph
