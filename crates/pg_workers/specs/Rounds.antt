-- A round: the parts that workers are assigned, what they give back, and who falls.
use Rattle.std.specs.Prelude.{◌≡◌, ℕ, ◌+◌, ◌<◌, ◌≤◌, ◌^◌, Bool, true, List, [], ◌∷◌, ◌++◌}
use Rattle.std.specs.Prelude.{length, All, Option, None, Some, IfOk, IfErr, slice_index_or, slice_set, Ok, Err}
use Rattle.std.specs.List.{AllPairs}
use Rattle.pg_core.specs.Progress.{IsNext, IsPartAt, IsRight, HasStepInput, IsStepOf, Progress, kept_for}
use Rattle.pg_core.specs.Traces.{logs_in, visible_in}
use Rattle.pg_graph.specs.Rows.{Rows}
use Rattle.pg_core.specs.Handed.{State, host_of, is_allowed, place_at, Step}
use Rattle.pg_model.specs.Needed.{needed_in}
use Rattle.pg_model.specs.Run.{visible_at}
use Rattle.pg_model.specs.Share.{belongs}
use Rattle.pg_model.specs.Superstep.{capped}
use Rattle.pg_workers_rounds.specs.Handed.{PartState}
use Rattle.pg_workers.specs.Losses.{Fated, WasFated}
use Rattle.pg_workers.specs.Meaning.{Meaning, job_of_meaning}
use Rattle.pg_workers.specs.declared.counts.Loss.{Loss}
use Rattle.pg_workers.specs.declared.outcomes.RoundResult.{RoundResult}
use Rattle.pg_workers_rounds.specs.Round.{RoundOf}
use Rattle.pg_workers_rounds.specs.declared.cause.Cause.{Cause}
use Rattle.pg_workers_rounds.specs.declared.cause.Cause.TheVariants.{Fate}
use Rattle.pg_workers_rounds.specs.declared.threads.Assignment.{Assignment}
use Rattle.pg_workers_rounds.specs.declared.threads.Outcome.{Outcome}
use Rattle.pg_workers_rounds.specs.declared.working.Done.{Done}

-- the first assignment, and the first outcome, is of a worker before that of the second
abbrev pub IsEarlier : {V M : Type 0} → Assignment V M → Assignment V M → Type 0
IsEarlier a b = a.worker < b.worker

abbrev pub ComesEarlier : {V M : Type 0} → Outcome V M → Outcome V M → Type 0
ComesEarlier a b = a.worker < b.worker

module _ {P C A V M : Type 0} (own : Meaning P C A V M) (core : Progress P C A V M) where
  -- a part was taken from a core, and may make a step from this superstep; its worker hosts it, and where the core was
  -- right the step borrows what it reads
  pub record IsTaken (superstep worker : ℕ) (part : PartState V M) : Type 0 where
    pub within : part.part_run.partition < core.limits.partitions
    pub host_is : host_of part.part_run.partition core.state ≡ worker
    pub allowed : is_allowed core.state (Step part.part_run.partition) ≡ true
    pub at : IsPartAt core.limits.partitions core.state part.part_run.partition part
    pub place_is : part.part_run.place ≡ superstep
    pub small : superstep + 1 < 2 ^ 32
    pub step_input : (kept : Option Rows) → IsRight (job_of_meaning own core) kept core
        → HasStepInput (job_of_meaning own core) kept core part.part_run.partition part.part_run.place part

  -- a worker is assigned some such parts
  pub record IsAssigned (superstep : ℕ) (assignment : Assignment V M) : Type 0 where
    pub some : 0 < length assignment.parts.items
    pub parts : All (IsTaken superstep assignment.worker) assignment.parts.items

  -- another core is that one without parts that were taken
  pub record IsRest (rest : Progress P C A V M) : Type 0 where
    pub core_is : rest ≡ record core { parts = rest.parts }
    pub right : (kept : Option Rows) → IsRight (job_of_meaning own core) kept core
        → IsRight (job_of_meaning own core) kept rest

  -- the parts of a worker were taken, and this is what remains
  pub record TakesParts (rest : Progress P C A V M) (superstep worker : ℕ) (parts : List (PartState V M)) : Type 0 where
    pub taken : IsRest rest
    pub each : All (IsTaken superstep worker) parts

  -- workers are assigned parts that were taken, by rising worker, all of them below this one
  pub record AreAssigned (superstep below : ℕ) (rest : Progress P C A V M)
      (assignments : List (Assignment V M)) : Type 0 where
    pub taken : IsRest rest
    pub rise : AllPairs IsEarlier assignments
    pub each : All (IsAssigned superstep) assignments
    pub workers : All (λ assignment. assignment.worker < below) assignments

  -- a round borrows what a step from a superstep reads of a core
  pub record Borrows (superstep attempt : ℕ) (round : RoundOf M) : Type 0 where
    pub superstep_is : round.superstep ≡ superstep
    pub attempt_is : round.attempt ≡ attempt
    pub registry_is : round.registry ≡ (own.master core.master).registrations
    pub logs_are : round.logs ≡ core.logs
    pub old_logs_are : round.old_logs ≡ logs_in superstep core.kept
    pub old_visible_is : round.old_visible ≡ visible_in superstep core.kept
    pub shows : (kept : Option Rows) → IsRight (job_of_meaning own core) kept core
        → round.visible ≡ visible_at (job_of_meaning own core) core.graph superstep

  -- a worker gives back a step that can be recorded, of a partition that it hosts; where the core was right it is the
  -- run's, with as many calls as it needs
  pub record IsBack (worker : ℕ) (done : Done V M) : Type 0 where
    pub within : done.part.part_run.partition < core.limits.partitions
    pub host_is : host_of done.part.part_run.partition core.state ≡ worker
    pub allowed : is_allowed core.state (Step done.part.part_run.partition) ≡ true
    pub next : IsNext core.limits.partitions core.state done.part.part_run.partition done.part
    pub step_of : (kept : Option Rows) → IsRight (job_of_meaning own core) kept core
        → IsStepOf (job_of_meaning own core) kept core done.part.part_run.partition done.part done.sent
    pub counted : (kept : Option Rows) (r : ℕ) → IsRight (job_of_meaning own core) kept core
        → place_at done.part.part_run.partition core.state ≡ Some r
        → done.calls ≡ capped (needed_in own.value_eq own.message_eq (job_of_meaning own core)
        (kept_for kept core done.part.part_run.partition) core.graph
        (belongs core.limits.partitions done.part.part_run.partition) r)

-- a worker fell in a round at this superstep: a partition that it hosts may make a step from there, and it has a fate
-- where that is the cause
pub record HasFallen (fated : Fated) (superstep attempt : ℕ) (state : State) (worker : ℕ) (cause : Cause) : Type 0 where
  pub partition : ℕ
  pub host_is : host_of partition state ≡ worker
  pub allowed : is_allowed state (Step partition) ≡ true
  pub place_is : place_at partition state ≡ Some superstep
  pub struck : cause ≡ Fate → WasFated fated attempt (record { worker = worker; superstep = superstep; cause = cause })

module _ {P C A V M : Type 0} (own : Meaning P C A V M) (fated : Fated) (superstep attempt : ℕ)
    (core : Progress P C A V M) where
  -- a worker gives back its steps, or it fell
  pub record IsReturned (outcome : Outcome V M) : Type 0 where
    pub done : IfOk outcome.done (λ dones. All (IsBack own core outcome.worker) dones.items)
    pub fell : IfErr outcome.done (λ cause. HasFallen fated superstep attempt core.state outcome.worker cause)

  -- all workers of a round do, by rising worker
  pub record AreReturned (outcomes : List (Outcome V M)) : Type 0 where
    pub rise : AllPairs ComesEarlier outcomes
    pub each : All IsReturned outcomes

-- ---- the steps by partition

module _ {V M : Type 0} where
  -- with these steps, each at the place of its partition
  abbrev pub with_steps : List (Done V M) → List (Option (Done V M)) → List (Option (Done V M))
  with_steps [] steps = steps
  with_steps (done ∷ dones) steps = with_steps dones (slice_set steps done.part.part_run.partition (Some done))

  -- with the steps that a worker gives back, if it does
  abbrev pub with_outcome : Outcome V M → List (Option (Done V M)) → List (Option (Done V M))
  with_outcome outcome steps = elim outcome.done [ Ok dones ↦ with_steps dones.items steps | Err cause ↦ steps ]

  abbrev pub with_outcomes : List (Outcome V M) → List (Option (Done V M)) → List (Option (Done V M))
  with_outcomes [] steps = steps
  with_outcomes (outcome ∷ outcomes) steps = with_outcomes outcomes (with_outcome outcome steps)

  -- the worker of an outcome, if it fell in a round at this superstep
  abbrev pub fallen_by : ℕ → Outcome V M → List Loss
  fallen_by superstep outcome =
      elim outcome.done [
        | Ok dones ↦ []
        | Err cause ↦ record
            { worker = outcome.worker; superstep = superstep; cause = cause } ∷ []
      ]

  abbrev pub fallen_in : ℕ → List (Outcome V M) → List Loss
  fallen_in superstep [] = []
  fallen_in superstep (outcome ∷ outcomes) = fallen_by superstep outcome ++ fallen_in superstep outcomes

-- no step stands there
abbrev pub HasNone : {X : Type 0} → List (Option X) → Type 0
HasNone steps = (p : ℕ) → slice_index_or steps p None ≡ None

-- these are the steps that outcomes give back, by partition, and the workers that fell in a round at this superstep
pub record IsCollected {V M : Type 0} (superstep : ℕ) (outcomes : List (Outcome V M))
    (collected : RoundResult V M) : Type 0 where
  pub none : List (Option (Done V M))
  pub nothing : HasNone none
  pub steps_are : collected.steps.items ≡ with_outcomes outcomes none
  pub fallen_are : collected.fallen.items ≡ fallen_in superstep outcomes

-- each step stands at the place of its partition, and can be recorded
abbrev pub AreNext : {P C A V M : Type 0} → Progress P C A V M → List (Option (Done V M)) → Type 0
AreNext core steps = (p : ℕ) (done : Done _ _) → slice_index_or steps p None ≡ Some done
    → (done.part.part_run.partition ≡ p)
    × ((is_allowed core.state (Step p) ≡ true) × IsNext core.limits.partitions core.state p done.part)

module _ {P C A V M : Type 0} (own : Meaning P C A V M) (kept : Option Rows) (core : Progress P C A V M) where
  -- a step of partition p is the run's, with as many calls as it needs
  pub record IsStepRight (p : ℕ) (done : Done V M) : Type 0 where
    pub step_of : IsStepOf (job_of_meaning own core) kept core p done.part done.sent
    pub counted : (r : ℕ) → place_at p core.state ≡ Some r
        → done.calls ≡ capped (needed_in own.value_eq own.message_eq (job_of_meaning own core) (kept_for kept core p)
        core.graph
        (belongs core.limits.partitions p) r)

  -- each is, by partition
  abbrev pub AreStepsRight : List (Option (Done V M)) → Type 0
  AreStepsRight steps = (p : ℕ) (done : Done V M) → slice_index_or steps p None ≡ Some done → IsStepRight p done

-- no partition is before superstep s
abbrev pub NoneBefore : ℕ → State → Type 0
NoneBefore s state = (q r : ℕ) → place_at q state ≡ Some r → s ≤ r

-- steps were recorded: hosts stay, and so do the places of partitions of which no step stands there; none is further
-- back
pub record AreRecorded {X : Type 0} (steps : List (Option X)) (before after : State) : Type 0 where
  pub hosts : after.hosts ≡ before.hosts
  pub places : (p : ℕ) → slice_index_or steps p None ≡ None → place_at p after ≡ place_at p before
  pub none_before : (s : ℕ) → NoneBefore s before → NoneBefore s after
