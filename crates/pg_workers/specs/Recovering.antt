-- What is done about workers that fell.
use Rattle.std.specs.Prelude.{◌≡◌, ℕ, ◌≤◌, Bool, true, List, [], ◌∷◌, ◌++◌, length, All, Option, Some}
use Rattle.pg_checkpoint.specs.Shelf.{ShelfState}
use Rattle.pg_core.specs.Losing.{IsShareFound, place_found}
use Rattle.pg_core.specs.Progress.{IsRight, Progress}
use Rattle.pg_graph.specs.Rows.{Rows}
use Rattle.pg_core.specs.Handed.{State, host_of, is_alive, place_at, Restore}
use Rattle.pg_workers_rounds.specs.Handed.{PartState}
use Rattle.pg_workers.specs.Losses.{Fated, Trusts, WasFated}
use Rattle.pg_workers.specs.Meaning.{Meaning, job_of_meaning}
use Rattle.pg_workers.specs.Rounds.{NoneBefore}
use Rattle.pg_workers.specs.Running.{Coordination, IsRunning}
use Rattle.pg_workers.specs.declared.counts.Loss.{Loss}
use Rattle.pg_workers_rounds.specs.declared.cause.Cause.TheVariants.{Fate}

-- a partition that the worker of a loss hosts stands at the superstep of the loss
pub record Stands (state : State) (loss : Loss) : Type 0 where
  pub partition : ℕ
  pub host_is : host_of partition state ≡ loss.worker
  pub place_is : place_at partition state ≡ Some loss.superstep

-- a loss is to be recorded, of a round before which so many were, unless its worker isn't alive: no partition is before
-- its superstep, and one that its worker hosts stands there
pub record IsFall (fated : Fated) (attempt : ℕ) (state : State) (loss : Loss) : Type 0 where
  pub lowest : NoneBefore loss.superstep state
  pub there : is_alive loss.worker state ≡ true → Stands state loss
  pub struck : loss.cause ≡ Fate → WasFated fated attempt loss

abbrev pub AreFalls : Fated → ℕ → State → List Loss → Type 0
AreFalls fated attempt state losses = All (IsFall fated attempt state) losses

-- what was found of partition p, if anything, is its share of a run that was right at first, where the shelf may be
-- trusted once it goes on from it
abbrev pub IsFoundRight : {P C A V M : Type 0} → Meaning P C A V M → Progress P C A V M → ShelfState
    → Progress P C A V M → ℕ
    → Option (PartState V M) → Type 0
IsFoundRight own first shelf core p found =
    (kept : Option Rows) → IsRight (job_of_meaning own first) kept first
    → Trusts shelf.is_honest (core.history ++ Restore p (place_found found) ∷ [])
    → IsShareFound (job_of_meaning own first) core p found

-- losses are recorded one after another in a run that has gone on, and these remain, of a round before which so many
-- were
pub record LosesOn {P C A V M : Type 0} (own : Meaning P C A V M) (fated : Fated) (first : Progress P C A V M)
    (shelf : ShelfState)
    (attempt : ℕ) (now : Coordination P C A V M) (rest : List Loss) : Type 0 where
  pub runs : IsRunning own fated first shelf now
  pub before : attempt ≤ length now.losses
  pub falls : AreFalls fated attempt now.core.state rest
