use Rattle.pg_workers.specs.Meaning.{meaning}
use Rattle.pg_workers.proofs.Stepping.{TakesInOn}
use Rattle.pg_workers.proofs.coordinator.Coordinator.take_in.Given as goal

-- the steps so far were recorded, and those that are left can be
abbrev pub invariant-loop-number : goal.invariant-loop-number
invariant-loop-number g l =
    let own = meaning g.P.Computation.program g.C.MessageCombiner.combining g.M.MasterCompute.master g.P.Value.PartialEq.eq g.P.Message.PartialEq.eq
    g.P.Value.Plain.is_value g.P.Value.Coded.coding g.P.Message.Plain.is_value g.P.Message.Coded.coding in
    TakesInOn own l.fn.steps.items l.fn.self l.self l.steps.items
