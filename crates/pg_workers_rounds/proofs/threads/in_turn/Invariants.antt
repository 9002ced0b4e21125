use Rattle.std.proofs.Common.{◌≡◌, ◌++◌}
use Rattle.std.specs.List.{AllZip}
use Rattle.pg_workers_rounds.specs.Outcomes.{IsOutcome}
use Rattle.pg_workers_rounds.proofs.threads.in_turn.Given as goal

-- the assignments so far have their outcomes
abbrev pub invariant-loop-assignment : goal.invariant-loop-assignment
invariant-loop-assignment g l = record {
  whole : l.yielded ++ l.assignment-iterator.rest.items ≡ l.fn.assignments.items;
  done : AllZip (IsOutcome g.P.Value.PartialEq.eq g.P.Message.PartialEq.eq (g.P.Computation.program l.program)
      (g.C.MessageCombiner.combining l.combiner) (g.F.Fate.fated l.fate) l.round) l.yielded l.outcomes.items;
}
