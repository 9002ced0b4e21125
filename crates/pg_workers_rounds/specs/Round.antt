-- What a worker borrows for one round.
use Rattle.std.specs.Prelude.{ℕ, Option}
use Rattle.pg_global.specs.Registry.{Registered}
use Rattle.pg_inbox.specs.LoggedBundle.{Slots}
use Rattle.pg_model.specs.declared.view.Visible.{Visible}

-- what was sent so far, and what is visible in the superstep at which the worker's parts stand; the same of the old
-- run, where this has the superstep; the master's aggregators; the superstep, how many losses were recorded before the
-- round, and the worker
pub record RoundOf (M : Type 0) : Type 0 where
  pub logs : Slots M
  pub visible : Visible
  pub old_logs : Option (Slots M)
  pub old_visible : Option Visible
  pub registry : Registered
  pub superstep : ℕ
  pub attempt : ℕ
  pub worker : ℕ
