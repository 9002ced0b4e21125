-- A run in the midst of its supersteps.
use Rattle.std.specs.Prelude.{◌≡◌, ℕ, ◌+◌, ◌<◌, false, is_some}
use Rattle.pg_graph.specs.Rows.{Rows}
use Rattle.pg_model.specs.Job.{Job}
use Rattle.pg_model.specs.Run.{configuration, ending_after, executions_below}
use Rattle.pg_model.specs.Superstep.{capped}
use Rattle.pg_scratch.specs.Stages.{IsReady}
use Rattle.pg_scratch.specs.declared.superstep.Progress.{Progress}

-- s supersteps are done, none of them ended the run, and the meter has counted their executions
pub record IsRunning {V M : Type 0} (job : Job V M) (rows : Rows) (places first_count s : ℕ)
    (p : Progress V M) : Type 0 where
  pub stands : p.configuration ≡ configuration job rows s
  pub ready : IsReady places p
  pub goes_on : (before : ℕ) → before < s → is_some (ending_after job rows before) ≡ false
  pub counted : p.meter ≡ capped (first_count + executions_below job rows s)
