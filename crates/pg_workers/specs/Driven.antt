-- What a run on workers gives.
use Rattle.std.specs.Prelude.{◌≡◌, ℕ, ◌+◌, ◌≤◌, Bool, true, false, List, map, length, Option}
use Rattle.std.specs.List.{range_with_len}
use Rattle.pg_core.specs.Driving.{needs_of}
use Rattle.pg_core.specs.Progress.{IsRight, Progress}
use Rattle.pg_core.specs.Traces.{IsRetainedBy, Traces}
use Rattle.pg_graph.specs.Rows.{Rows}
use Rattle.pg_core.specs.Handed.{counts_in, losses_in, Reaches, State, first_state, steps_of, Event}
use Rattle.pg_model.specs.Job.{Job}
use Rattle.pg_model.specs.Needed.{needed_count}
use Rattle.pg_model.specs.Run.{answer, run_length}
use Rattle.pg_model.specs.Superstep.{capped}
use Rattle.pg_model.specs.declared.run.Run.{Run}
use Rattle.pg_workers.specs.Losses.{AreFated, Fated, Trusts, as_reported}
use Rattle.pg_workers.specs.Meaning.{Meaning, job_of_meaning}
use Rattle.pg_workers.specs.declared.counts.Counts.{Counts}

-- the status machine allows this history of n partitions on so many workers, the run has ended with it, and the steps
-- and the losses that were counted are those that it tells of
pub record IsHistoryOf (n workers : ℕ) (history : List Event) (counts : Counts) : Type 0 where
  pub reached : State
  pub leads : Reaches (first_state n workers) history reached
  pub ended : reached.ended ≡ true
  pub steps_are : counts.steps ≡ map (λ p. steps_of p history) (range_with_len 0 n)
  pub losses_are : map as_reported counts.losses ≡ losses_in (first_state n workers) history

-- it has all supersteps of the job's run on these rows, and the calls that were counted are those that it tells of: in
-- each step those that differ from the kept run's, if any, and all where a loss had taken the partition
pub record AreCountsOf {V M : Type 0} (value_eq : V → V → Bool) (message_eq : M → M → Bool) (job : Job V M)
    (kept : Option Rows) (rows : Rows)
    (n workers : ℕ) (history : List Event) (counts : Counts) : Type 0 where
  pub tells : IsHistoryOf n workers history counts
  pub whole : tells.reached.current + 1 ≡ run_length job rows
  pub calls_are : counts.calls ≡ capped
      (counts_in (needs_of value_eq message_eq job rows n kept) (λ p. false) (first_state n workers) history)

module _ {P C A V M : Type 0} (own : Meaning P C A V M) where
  -- the answer, what is retained for the next run and the counts are those of the run from scratch on the graph of a
  -- core, against the kept run, if any
  pub record IsAnswered (kept : Option Rows) (core : Progress P C A V M) (history : List Event) (run : Run V)
      (retained : Traces V M)
      (counts : Counts) : Type 0 where
    pub answers : run ≡ answer (job_of_meaning own core) core.graph
    pub leaves : IsRetainedBy (job_of_meaning own core) core.graph core.limits.partitions retained
    pub counted : AreCountsOf own.value_eq own.message_eq
        (job_of_meaning own core) kept core.graph core.limits.partitions core.limits.workers history counts

  -- the run of a core was driven to its end through a history that the status machine allows. No more workers fell than
  -- may, by the fate only those that it has fall; each partition leaves something; there is an aggregate for each of
  -- the master's registrations; and where the core was right it is answered, if the shelf is honest or nothing that it
  -- gave was used
  pub record IsDriven (fated : Fated) (honest : Bool) (core : Progress P C A V M) (run : Run V) (retained : Traces V M)
      (counts : Counts) : Type 0 where
    pub history : List Event
    pub tells : IsHistoryOf core.limits.partitions core.limits.workers history counts
    pub few : length counts.losses ≤ core.limits.max_losses
    pub fated_are : AreFated fated 0 counts.losses
    pub each : length retained.retained_parts ≡ core.limits.partitions
    pub places : length run.aggregates ≡ length (own.master core.master).registrations
    pub right : (kept : Option Rows) → IsRight (job_of_meaning own core) kept core → Trusts honest history
        → IsAnswered kept core history run retained counts

  -- no worker fell: the answer and what is retained are those of the run from scratch whatever the shelf is, just the
  -- executions that differ from the kept run's, if any, were called, and each partition has made each superstep once
  pub record IsUnlost (kept : Option Rows) (core : Progress P C A V M) (run : Run V) (retained : Traces V M)
      (counts : Counts) : Type 0 where
    pub answers : run ≡ answer (job_of_meaning own core) core.graph
    pub leaves : IsRetainedBy (job_of_meaning own core) core.graph core.limits.partitions retained
    pub calls_are : counts.calls ≡ capped
        (needed_count own.value_eq own.message_eq (job_of_meaning own core) kept core.graph)
    pub steps_are : counts.steps ≡ map (λ p. run_length (job_of_meaning own core) core.graph)
        (range_with_len 0 core.limits.partitions)
