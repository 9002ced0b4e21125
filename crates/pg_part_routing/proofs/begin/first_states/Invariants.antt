use Rattle.std.proofs.Common.{◌≡◌, ◌++◌, map}
use Rattle.pg_model.specs.ByIds.{state_first}
use Rattle.pg_part_routing.specs.Starting.{own}
use Rattle.pg_part_routing.proofs.begin.first_states.Given as goal

abbrev pub invariant-loop-id : goal.invariant-loop-id
invariant-loop-id g l =
    l.states.items
    ++ map (λ r. state_first (g.P.Computation.program l.program) r.0 r.1) (own l.share.partitions l.share.partition l.id-iterator)
    ≡ map (λ r. state_first (g.P.Computation.program l.program) r.0 r.1) (own l.share.partitions l.share.partition l.graph)
