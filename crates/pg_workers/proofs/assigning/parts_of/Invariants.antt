use Rattle.pg_workers.specs.Meaning.{meaning}
use Rattle.pg_workers.specs.Rounds.{TakesParts}
use Rattle.pg_workers.proofs.assigning.parts_of.Given as goal

-- the parts of the partitions so far were taken
abbrev pub invariant-loop-number : goal.invariant-loop-number
invariant-loop-number g l =
    let own = meaning g.P.Computation.program g.C.MessageCombiner.combining g.M.MasterCompute.master g.P.Value.PartialEq.eq g.P.Message.PartialEq.eq
    g.P.Value.Plain.is_value g.P.Value.Coded.coding g.P.Message.Plain.is_value g.P.Message.Coded.coding in
    TakesParts own l.fn.core l.core l.superstep l.worker l.parts.items
