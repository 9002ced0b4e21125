use Rattle.std.proofs.Common.{ap, ◌∙◌}
use Rattle.pg_trace.specs.Trace.{state_at}
use Rattle.pg_trace.proofs.RunStates.{state_of_run}
use Rattle.pg_trace.proofs.states.StateCursor.state_at.Goals as goal

pub returns-clause-run : goal.returns-clause-run
returns-clause-run g c job rows n p r holds mine within =
    c.state_before.ensures.value ∙ ap (λ s. state_at c.args.id s c.args.self.now) c.number.ensures
    ∙ state_of_run c.args.self.now c.args.id c.args.superstep job rows n p r holds mine within
