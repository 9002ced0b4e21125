-- What the workers of a round make of what they were assigned.
use Rattle.std.specs.Prelude.{◌≡◌, ℕ, ◌<◌, Bool, List, Option, IfOk, IfErr, length, slice_index_or}
use Rattle.pg_model.specs.Job.{Combining, Program}
use Rattle.pg_workers_rounds.specs.Round.{RoundOf}
use Rattle.pg_workers_rounds.specs.Work.{AreDone, AreSpared, IsStruck}
use Rattle.pg_workers_rounds.specs.declared.cause.Cause.TheVariants.{Fate}
use Rattle.pg_workers_rounds.specs.declared.threads.Assignment.{Assignment}
use Rattle.pg_workers_rounds.specs.declared.threads.Outcome.{Outcome}

module _ {V M : Type 0} (value_eq : V → V → Bool) (message_eq : M → M → Bool) (program : Program V M)
    (combining : Option (Combining M)) (fated : ℕ → ℕ → ℕ → ℕ → Bool) where
  -- the outcome of an assignment in a round, of the worker that it names: its parts were stepped and by the fate it
  -- falls after none; or it fell, by the fate only where that has it fall after one of them
  pub record IsOutcome (round : RoundOf M) (assignment : Assignment V M) (outcome : Outcome V M) : Type 0 where
    pub worker : outcome.worker ≡ assignment.worker
    pub done : IfOk outcome.done (λ dones. AreDone value_eq message_eq program combining
        (record round { worker = assignment.worker }) assignment.parts.items dones.items)
    pub spared : IfOk outcome.done
        (λ dones. AreSpared fated (record round { worker = assignment.worker }) assignment.parts.items)
    pub struck : IfErr outcome.done (λ cause. cause ≡ Fate
        → IsStruck fated (record round { worker = assignment.worker }) assignment.parts.items)

  -- each assignment has its outcome, in order
  pub record AreOutcomes (round : RoundOf M) (assignments : List (Assignment V M))
      (outcomes : List (Outcome V M)) : Type 0 where
    pub many : length outcomes ≡ length assignments
    pub each : (i : ℕ) (assignment : Assignment V M) (outcome : Outcome V M) → i < length assignments
        → IsOutcome round (slice_index_or assignments i assignment) (slice_index_or outcomes i outcome)
