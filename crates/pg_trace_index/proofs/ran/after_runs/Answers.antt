use Rattle.std.proofs.Common.{ap, ◌∙◌}
use Rattle.pg_trace_index.specs.History.{steps_of}
use Rattle.pg_trace_index.proofs.Supersteps.{no_last}
use Rattle.pg_trace_index.proofs.ran.after_runs.Goals as goal

pub returns-in-None : goal.returns-in-None
returns-in-None c = no_last (steps_of c.as_slice.result.now) c.in-None.ensures ∙ ap steps_of c.as_slice.ensures.value ∙ c.in_ok-runs.ensures
