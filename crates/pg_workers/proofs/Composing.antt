-- What a round makes of a run, from the parts that are taken to the losses that are to be recorded.
use Rattle.std.proofs.Common.{◌≡◌, ℕ, Bool, List, length, ap, sym, subst, Option}
use Rattle.std.specs.Prelude.{All}
use Rattle.std.proofs.lemmas.List.Elements.{All-weaker}
use Rattle.pg_checkpoint.specs.Shelf.{ShelfState}
use Rattle.pg_core.specs.Progress.{IsRight, Progress}
use Rattle.pg_graph.specs.Rows.{Rows}
use Rattle.pg_core.specs.Handed.{State}
use Rattle.pg_model.specs.Job.{Job}
use Rattle.pg_workers_rounds.specs.Handed.{PartState}
use Rattle.pg_workers.specs.Losses.{Fated, Trusts}
use Rattle.pg_workers.specs.Meaning.{Meaning, job_of_meaning}
use Rattle.pg_workers.specs.Recovering.{AreFalls, IsFall}
use Rattle.pg_workers.specs.Rounds.{AreAssigned, AreNext, AreRecorded, AreReturned, AreStepsRight, IsCollected, IsRest, fallen_in}
use Rattle.pg_workers.specs.Running.{Coordination, IsRunning}
use Rattle.pg_workers.specs.declared.counts.Loss.{Loss}
use Rattle.pg_workers.specs.declared.outcomes.RoundResult.{RoundResult}
use Rattle.pg_workers.proofs.Going.{job_stays}
use Rattle.pg_workers.proofs.Returned.{IsUnnoted, all_next, all_right, all_unnoted, fall_from_unnoted}
use Rattle.pg_workers_rounds.specs.declared.threads.Assignment.{Assignment}
use Rattle.pg_workers_rounds.specs.declared.threads.Outcome.{Outcome}
use Rattle.pg_workers_rounds.specs.declared.working.Done.{Done}

module _ {P C A V M : Type 0} (own : Meaning P C A V M) where
  -- ---- without parts

  -- a run that has gone on has so without parts that were taken
  abbrev with_parts : List (Option (PartState V M)) → Coordination P C A V M → Coordination P C A V M
  with_parts parts a = record { core = record a.core { parts = parts }; calls = a.calls; losses = a.losses }

  running_without : (fated : Fated) (first : Progress P C A V M) (shelf : ShelfState) (a : Coordination P C A V M) (parts : List (Option (PartState V M)))
      → ((kept : Option Rows) → IsRight (job_of_meaning own a.core) kept a.core → IsRight (job_of_meaning own a.core) kept (record a.core { parts = parts }))
      → IsRunning own fated first shelf a → IsRunning own fated first shelf (with_parts parts a)
  running_without fated first shelf a parts rightly runs = record {
    same = record {
      program_is = runs.same.program_is;
      combiner_is = runs.same.combiner_is;
      master_is = runs.same.master_is;
      graph_is = runs.same.graph_is;
      limits_are = runs.same.limits_are;
      run_is = runs.same.run_is;
    };
    leads = runs.leads;
    losses_are = runs.losses_are;
    fated_are = runs.fated_are;
    right = λ kept right trusts.
        subst (λ (j : Job V M). IsRight j kept a.core → IsRight j kept (record a.core { parts = parts })) (job_stays own runs.same) (rightly kept)
        (runs.right kept right trusts);
    calls_are = runs.calls_are;
    saved = runs.saved;
  }

  pub running_rest : (fated : Fated) (first : Progress P C A V M) (shelf : ShelfState) (a : Coordination P C A V M) (rest : Progress P C A V M)
      → IsRest own a.core rest → IsRunning own fated first shelf a
      → IsRunning own fated first shelf (record { core = rest; calls = a.calls; losses = a.losses })
  running_rest fated first shelf a rest remaining runs =
      subst (λ (c : Progress P C A V M). IsRunning own fated first shelf (record { core = c; calls = a.calls; losses = a.losses })) (sym remaining.core_is)
      (running_without fated first shelf a rest.parts
      (λ kept right. subst (λ (c : Progress P C A V M). IsRight (job_of_meaning own a.core) kept c) remaining.core_is (remaining.right kept right)) runs)

  steps_without : (kept : Option Rows) (core : Progress P C A V M) (parts : List (Option (PartState V M))) (steps : List (Option (Done V M)))
      → AreStepsRight own kept core steps → AreStepsRight own kept (record core { parts = parts }) steps
  steps_without kept core parts steps are p done at = let is = are p done at in record { step_of = is.step_of; counted = is.counted }

  pub steps_rest : (kept : Option Rows) (core rest : Progress P C A V M) (steps : List (Option (Done V M))) → IsRest own core rest
      → AreStepsRight own kept core steps → AreStepsRight own kept rest steps
  steps_rest kept core rest steps remaining are =
      subst (λ (c : Progress P C A V M). AreStepsRight own kept c steps) (sym remaining.core_is) (steps_without kept core rest.parts steps are)

  pub next_rest : (core rest : Progress P C A V M) (steps : List (Option (Done V M))) → IsRest own core rest → AreNext core steps → AreNext rest steps
  next_rest core rest steps remaining are = subst (λ (c : Progress P C A V M). AreNext c steps) (sym remaining.core_is) are

  -- ---- a round

  module _ (fated : Fated) (superstep below : ℕ) (a : Coordination P C A V M) (rest : Progress P C A V M) (assignments : List (Assignment V M))
      (outcomes : List (Outcome V M)) (collected : RoundResult V M) (assigned : AreAssigned own a.core superstep below rest assignments)
      (returned : AreReturned own fated superstep (length a.losses) a.core outcomes) (sorted : IsCollected superstep outcomes collected) where
    -- the steps can be recorded
    pub steps_next : AreNext rest collected.steps.items
    steps_next =
        subst (AreNext rest) (sym sorted.steps_are)
        (next_rest a.core rest _ assigned.taken (all_next own a.core fated superstep (length a.losses) outcomes sorted.none sorted.nothing returned))

    -- and once they are, the run has gone on, and the losses are to be recorded
    pub after_steps : (first : Progress P C A V M) (shelf : ShelfState) (now : Coordination P C A V M)
        → AreRecorded collected.steps.items rest.state now.core.state → now.losses ≡ a.losses
        → (IsRunning own fated first shelf (record { core = rest; calls = a.calls; losses = a.losses })
        → ((kept : Option Rows) → IsRight (job_of_meaning own first) kept first → Trusts shelf.is_honest rest.history
        → AreStepsRight own kept rest collected.steps.items)
        → IsRunning own fated first shelf now)
        → IsRunning own fated first shelf a → IsRunning own fated first shelf now × AreFalls fated (length now.losses) now.core.state collected.fallen.items
    after_steps first shelf now recorded losses takes runs =
        let there : job_of_meaning own a.core ≡ job_of_meaning own first = job_stays own runs.same in
        let history : rest.history ≡ a.core.history = ap (λ (c : Progress P C A V M). c.history) assigned.taken.core_is in
        let state : rest.state ≡ a.core.state = ap (λ (c : Progress P C A V M). c.state) assigned.taken.core_is in
        let right = λ (kept : Option Rows) (right : IsRight (job_of_meaning own first) kept first) (trusts : Trusts shelf.is_honest rest.history).
        steps_rest kept a.core rest collected.steps.items assigned.taken
        (subst (AreStepsRight own kept a.core) (sym sorted.steps_are)
        (all_right own a.core fated superstep (length a.losses) outcomes sorted.none sorted.nothing returned kept
        (subst (λ (j : Job V M). IsRight j kept a.core) (sym there) (runs.right kept right (subst (Trusts shelf.is_honest) history trusts))))) in
        let unnoted : All (IsUnnoted own a.core fated superstep (length a.losses) collected.steps.items) collected.fallen.items =
        subst (λ (l : List Loss). All (IsUnnoted own a.core fated superstep (length a.losses) collected.steps.items) l) (sym sorted.fallen_are)
        (subst (λ (s : List (Option (Done V M))). All (IsUnnoted own a.core fated superstep (length a.losses) s) (fallen_in superstep outcomes))
        (sym sorted.steps_are)
        (all_unnoted own a.core fated superstep (length a.losses) outcomes sorted.none sorted.nothing returned)) in
        let from : AreRecorded collected.steps.items a.core.state now.core.state =
        subst (λ (s : State). AreRecorded collected.steps.items s now.core.state) state recorded in (
          takes (running_rest fated first shelf a rest assigned.taken runs) right,
          subst (λ (l : List Loss). AreFalls fated (length l) now.core.state collected.fallen.items) (sym losses)
              (All-weaker (IsUnnoted own a.core fated superstep (length a.losses) collected.steps.items) (IsFall fated (length a.losses) now.core.state)
              (λ loss is. fall_from_unnoted own a.core fated superstep (length a.losses) collected.steps.items now.core.state loss from is)
              collected.fallen.items unnoted),
        )
