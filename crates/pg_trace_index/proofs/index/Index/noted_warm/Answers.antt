use Rattle.std.proofs.Common.{sym, subst}
use Rattle.pg_trace_index.specs.Occurrences.{StepsRise}
use Rattle.pg_trace_index.proofs.index.Index.noted_warm.Goals as goal

pub noted-requires-clause-steps : goal.noted-requires-clause-steps
noted-requires-clause-steps c = subst StepsRise (sym c.in_ok-copy.ensures) c.requires.steps
