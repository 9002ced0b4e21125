use Rattle.std.proofs.Common.{◌≡◌, ◌++◌}
use Rattle.pg_workers_rounds.specs.Work.{AreDone, AreSpared}
use Rattle.pg_workers_rounds.proofs.working.work.Given as goal

-- the parts so far were stepped
abbrev pub invariant-loop-part : goal.invariant-loop-part
invariant-loop-part g l = record {
  whole : l.yielded ++ l.part-iterator.rest.items ≡ l.fn.parts.items;
  done : AreDone g.P.Value.PartialEq.eq g.P.Message.PartialEq.eq (g.P.Computation.program l.program) (g.C.MessageCombiner.combining l.combiner)
      l.round l.yielded l.dones.items;
  spared : AreSpared (g.F.Fate.fated l.fate) l.round l.yielded;
}
