use Rattle.pg_core.specs.Losing.{HasSentAgain}
use Rattle.pg_core.proofs.losing.send_again.Given as goal

-- the supersteps so far were sent again
abbrev pub invariant-loop-number : goal.invariant-loop-number
invariant-loop-number g l = record {
  again : HasSentAgain (g.C.MessageCombiner.combining l.combiner) l.part.part_run.partitions l.partition l.number l.part.part_run.trace l.fn.logs l.logs;
}
