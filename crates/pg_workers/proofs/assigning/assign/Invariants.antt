use Rattle.pg_workers.specs.Meaning.{meaning}
use Rattle.pg_workers.specs.Rounds.{AreAssigned}
use Rattle.pg_workers.proofs.assigning.assign.Given as goal

-- the workers so far have their parts
abbrev pub invariant-loop-number : goal.invariant-loop-number
invariant-loop-number g l =
    let own = meaning g.P.Computation.program g.C.MessageCombiner.combining g.M.MasterCompute.master g.P.Value.PartialEq.eq g.P.Message.PartialEq.eq
    g.P.Value.Plain.is_value g.P.Value.Coded.coding g.P.Message.Plain.is_value g.P.Message.Coded.coding in
    AreAssigned own l.fn.core l.superstep l.number l.core l.assignments.items
