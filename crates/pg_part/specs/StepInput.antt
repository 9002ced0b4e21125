-- What a step borrows of a run, and of the run that was kept: the bundles to its partition, and what is visible.
use Rattle.std.specs.Prelude.{◌≡◌, ℕ, ◌+◌, ◌<◌, ◌≤◌, Option, None, Some}
use Rattle.pg_graph.specs.Rows.{Rows}
use Rattle.pg_inbox.specs.LoggedBundle.{Slots, slot_at}
use Rattle.pg_model.specs.Job.{Job}
use Rattle.pg_model.specs.Run.{run_length, view_at, visible_at}
use Rattle.pg_model.specs.declared.view.View.{View}
use Rattle.pg_model.specs.declared.view.Visible.{Visible}
use Rattle.pg_part_routing.specs.Routes.{HasMessages, TellsAt, bundle_in, bundle_sent}

module _ {V M : Type 0} (job : Job V M) (rows : Rows) where
  -- a step from r borrows what it reads of the run
  pub record IsStepInput (n p r : ℕ) (logs : Slots M) (visible : Visible) : Type 0 where
    pub within : r < run_length job rows
    pub messages : HasMessages job rows n p r logs
    pub sees : visible ≡ visible_at job rows r

  -- the run on the old rows, which has superstep r, has in its logs what a step from r borrows: what was sent to the
  -- partition before, and what it sent in r. What is new tells, if anything, at which targets it differs
  pub record HasOldLogs (n p r : ℕ) (logs old_logs : Slots M) : Type 0 where
    pub there : r < run_length job rows
    pub received : HasMessages job rows n p r old_logs
    pub sent : (q : ℕ) → q < n → bundle_in (slot_at old_logs r p q) ≡ Some (bundle_sent job rows n p q r)
    pub lists_changes : (s q : ℕ) → s + 1 ≡ r → q < n → TellsAt (slot_at old_logs s q p) (slot_at logs s q p)

module _ {V M : Type 0} (job : Job V M) where
  -- a step borrows the logs and the visible values of the kept run where that has the superstep, and else not both; a
  -- cold part run may be given anything
  abbrev pub IsOldStepInput : Option Rows → ℕ → ℕ → ℕ → Slots M → Option (Slots M) → Option Visible → Type 0
  IsOldStepInput None n p r logs old_logs old_visible = Unit {0}
  IsOldStepInput (Some old) n p r logs None old_visible = run_length job old ≤ r
  IsOldStepInput (Some old) n p r logs (Some old_logs) None = run_length job old ≤ r
  IsOldStepInput (Some old) n p r logs (Some old_logs) (Some old_visible) =
      HasOldLogs job old n p r logs old_logs × (old_visible ≡ visible_at job old r)

  -- the same of what is seen
  abbrev pub IsOldStepView : Option Rows → ℕ → ℕ → ℕ → Slots M → Slots M → View → Type 0
  IsOldStepView None n p r logs old_logs old_view = Unit {0}
  IsOldStepView (Some old) n p r logs old_logs old_view =
      HasOldLogs job old n p r logs old_logs × (old_view ≡ view_at job old r)
