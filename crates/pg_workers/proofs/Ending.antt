-- What a run on workers gives once it has ended.
use Rattle.std.proofs.Common.{◌≡◌, ℕ, zero, suc, ◌+◌, ◌<◌, ◌≤◌, Bool, true, false, List, [], ◌∷◌, length}
use Rattle.std.proofs.Common.{map, refl, ap, ap₂, sym, ◌∙◌, subst, subst₂, arith, Option, None, Some, is_some}
use Rattle.std.specs.List.{range_with_len}
use Rattle.std.proofs.lemmas.Bool.{true≢false}
use Rattle.std.proofs.lemmas.List.FromFn.{get_or-map-range_with_len}
use Rattle.pg_checkpoint.specs.Shelf.{ShelfState}
use Rattle.pg_core.specs.Closing.{IsFinished}
use Rattle.pg_core.specs.Driving.{calls_in, losses_of, needs_of}
use Rattle.pg_core.specs.Progress.{IsRight, Progress}
use Rattle.pg_core.specs.Traces.{IsRetainedBy, Traces}
use Rattle.pg_core.proofs.Keeping.{nowhere_yet}
use Rattle.pg_graph.specs.Rows.{Rows}
use Rattle.pg_core.specs.Handed.{Limits, counts_in, falls_of, losses_in}
use Rattle.pg_core.specs.Handed.{Reaches, State, StepsTell, first_state, is_alive, saved_at, steps_of, Event}
use Rattle.pg_core.proofs.Handed.{none_was_lost, unlost_anew, fell_all, none_fell_of_one}
use Rattle.pg_model.specs.Job.{Job}
use Rattle.pg_model.specs.Needed.{needed_count}
use Rattle.pg_model.specs.Run.{answer, run_length}
use Rattle.pg_model.specs.Superstep.{capped}
use Rattle.pg_model.specs.declared.run.Run.{Run}
use Rattle.pg_workers.specs.Driven.{IsAnswered, IsDriven, IsHistoryOf, IsUnlost}
use Rattle.pg_workers.specs.Losses.{AreAll, AreFated, Fated, Trusts, as_reported}
use Rattle.pg_workers.specs.Meaning.{Meaning, job_of_meaning}
use Rattle.pg_workers.specs.Refused.{AreLosses}
use Rattle.pg_workers.specs.Running.{Coordination, IsRunning}
use Rattle.pg_workers.specs.declared.counts.Counts.{Counts}
use Rattle.pg_workers.specs.declared.counts.Loss.{Loss}
use Rattle.pg_workers.proofs.Going.{job_stays}

none_stated : (losses : List Loss) → map as_reported losses ≡ [] → losses ≡ []
none_stated [] is = refl
none_stated (loss ∷ losses) is = absurd cc

map_same : {X : Type 0} (f g : ℕ → X) (a n : ℕ) → ((k : ℕ) → a ≤ k → k < a + n → f k ≡ g k) → map f (range_with_len a n) ≡ map g (range_with_len a n)
map_same f g a zero same = refl
map_same f g a (suc n) same =
    ap₂ (λ x l. x ∷ l) (same a (omega arith) (omega arith)) (map_same f g (a + 1) n (λ k from within. same k (omega (arith, from)) (omega (arith, within))))

-- where nobody fell, no shelf is to be trusted
pub unlost_trusts : (honest : Bool) (n workers : ℕ) (history : List Event) (to : State) → Reaches (first_state n workers) history to
    → losses_in (first_state n workers) history ≡ [] → Trusts honest history
unlost_trusts true n workers history to reaches none = refl
unlost_trusts false n workers history to reaches none = unlost_anew (λ lost p r. 0) n workers history to reaches none

module _ {P C A V M : Type 0} (own : Meaning P C A V M) (fated : Fated) (first : Progress P C A V M) (shelf : ShelfState)
    (now : Coordination P C A V M) (runs : IsRunning own fated first shelf now) where
  abbrev n : ℕ
  n = first.limits.partitions

  abbrev start : State
  start = first_state first.limits.partitions first.limits.workers

  reaches : Reaches start now.core.history now.core.state
  reaches = subst (λ (l : Limits). Reaches (first_state l.partitions l.workers) now.core.history now.core.state) runs.same.limits_are runs.leads

  losses_stated : map as_reported now.losses ≡ losses_in start now.core.history
  losses_stated = runs.losses_are ∙ ap (λ (l : Limits). losses_in (first_state l.partitions l.workers) now.core.history) runs.same.limits_are

  -- the losses are those of a history
  pub losses_are : AreLosses fated first.limits now.losses
  losses_are = record {
    history = now.core.history;
    reached = now.core.state;
    leads = reaches;
    losses_are = losses_stated;
    fated_are = runs.fated_are;
  }

  -- all workers fell where none is alive
  pub all_fell : ((w : ℕ) → w < now.core.limits.workers → is_alive w now.core.state ≡ false) → AreAll first.limits.workers now.losses
  all_fell dead w =
      ap (λ l. falls_of w l) losses_stated
      ∙ fell_all n first.limits.workers now.core.history now.core.state reaches
      (λ v within. dead v (omega (arith, within, ap (λ (l : Limits). l.workers) runs.same.limits_are))) w

  module _ (ended : now.core.state.ended ≡ true) (run : Run V) (retained : Traces V M) (counts : Counts)
      (steps_are : counts.steps ≡ map (λ p. steps_of p now.core.history) (range_with_len 0 now.core.limits.partitions))
      (calls_are : counts.calls ≡ now.calls) (losses_same : counts.losses ≡ now.losses)
      (finishes : (kept : Option Rows) → IsRight (job_of_meaning own now.core) kept now.core → IsFinished (job_of_meaning own now.core) now.core run retained) where
    tells : IsHistoryOf n first.limits.workers now.core.history counts
    tells = record {
      reached = now.core.state;
      leads = reaches;
      ended = ended;
      steps_are = steps_are ∙ ap (λ (l : Limits). map (λ p. steps_of p now.core.history) (range_with_len 0 l.partitions)) runs.same.limits_are;
      losses_are = ap (map as_reported) losses_same ∙ losses_stated;
    }

    module _ (kept : Option Rows) (right : IsRight (job_of_meaning own first) kept first) (trusts : Trusts shelf.is_honest now.core.history) where
      there : IsRight (job_of_meaning own first) kept now.core
      there = runs.right kept right trusts

      done : IsFinished (job_of_meaning own first) now.core run retained
      done = subst (λ (j : Job V M). IsRight j kept now.core → IsFinished j now.core run retained) (job_stays own runs.same) (finishes kept) there

      whole_run : now.core.state.current + 1 ≡ run_length (job_of_meaning own first) first.graph
      whole_run = there.at_end ended ∙ ap (run_length (job_of_meaning own first)) runs.same.graph_is

      answered : IsAnswered own kept first now.core.history run retained counts
      unfolding tells
      answered = record {
        answers = done.answers ∙ ap (answer (job_of_meaning own first)) runs.same.graph_is;
        leaves = subst₂ (λ (g : Rows) (l : Limits). IsRetainedBy (job_of_meaning own first) g l.partitions retained) runs.same.graph_is runs.same.limits_are done.leaves;
        counted = record {
          tells = tells;
          whole = whole_run;
          calls_are = calls_are ∙ (runs.calls_are kept right trusts
              ∙ (λ i. capped (counts_in (needs_of own.value_eq own.message_eq (job_of_meaning own first) (runs.same.graph_is i) (l_of i).partitions kept) (λ p. false)
              (first_state (l_of i).partitions (l_of i).workers) now.core.history)));
        };
      }
        where
          l_of : now.core.limits ≡ first.limits
          l_of = runs.same.limits_are

    pub is_driven : length now.losses ≤ first.limits.max_losses → length retained.retained_parts ≡ now.core.limits.partitions
        → length run.aggregates ≡ length (own.master now.core.master).registrations → IsDriven own fated shelf.is_honest first run retained counts
    is_driven few each places = record {
      history = now.core.history;
      tells = tells;
      few = subst (λ (l : List Loss). length l ≤ first.limits.max_losses) (sym losses_same) few;
      fated_are = subst (AreFated fated 0) (sym losses_same) runs.fated_are;
      each = each ∙ ap (λ (l : Limits). l.partitions) runs.same.limits_are;
      places = places ∙ ap (λ (master : A). length (own.master master).registrations) runs.same.master_is;
      right = answered;
    }

    -- where nobody fell
    module _ (none : counts.losses ≡ []) where
      nobody : losses_in start now.core.history ≡ []
      nobody = sym losses_stated ∙ ap (map as_reported) (sym losses_same ∙ none)

      nobody_now : losses_of now.core ≡ []
      nobody_now = ap (λ (l : Limits). losses_in (first_state l.partitions l.workers) now.core.history) runs.same.limits_are ∙ nobody

      pub is_unlost : (kept : Option Rows) → IsRight (job_of_meaning own first) kept first
          → StepsTell now.core.limits.partitions (first_state now.core.limits.partitions now.core.limits.workers) now.core.history now.core.state
          → ((kept : Option Rows) → IsRight (job_of_meaning own now.core) kept now.core → now.core.state.ended ≡ true → losses_of now.core ≡ []
          → calls_in own.value_eq own.message_eq (job_of_meaning own now.core) kept now.core
          ≡ needed_count own.value_eq own.message_eq (job_of_meaning own now.core) kept now.core.graph)
          → IsUnlost own kept first run retained counts
      is_unlost kept right steps unlost =
          let trusts : Trusts shelf.is_honest now.core.history = unlost_trusts shelf.is_honest n first.limits.workers now.core.history now.core.state reaches
          nobody in
          let all = answered kept right trusts in
          let same : job_of_meaning own now.core ≡ job_of_meaning own first = job_stays own runs.same in
          let right_now : IsRight (job_of_meaning own now.core) kept now.core = subst (λ (j : Job V M). IsRight j kept now.core) (sym same) (there kept right trusts) in
          record {
            answers = all.answers;
            leaves = all.leaves;
            calls_are = calls_are ∙ (runs.calls_are kept right trusts
                ∙ (ap (λ (j : Job V M). capped (calls_in own.value_eq own.message_eq j kept now.core)) (sym same)
                ∙ (ap (λ (k : ℕ). capped k) (unlost kept right_now ended nobody_now)
                ∙ (λ i. capped (needed_count own.value_eq own.message_eq (same i) kept (runs.same.graph_is i))))));
            steps_are = tells.steps_are ∙ map_same (λ p. steps_of p now.core.history) (λ p. run_length (job_of_meaning own first) first.graph) 0 n
                (λ p from within. steps.all ended p (omega (arith, within, ap (λ (l : Limits). l.partitions) runs.same.limits_are))
                (none_was_lost p (first_state now.core.limits.partitions now.core.limits.workers) now.core.history nobody_now) ∙ whole_run kept right trusts);
          }

    -- with one worker nobody fell
    pub cold_unlost : 0 < first.limits.partitions → first.limits.workers ≡ 1 → counts.losses ≡ []
    cold_unlost some one =
        none_stated counts.losses (tells.losses_are
        ∙ (ap (λ (w : ℕ). losses_in (first_state n w) now.core.history) one
        ∙ none_fell_of_one n now.core.history now.core.state some
        (subst (λ (w : ℕ). Reaches (first_state n w) now.core.history now.core.state) one reaches) ended))

-- a run to which nothing has happened has gone on from itself
pub running_first : {P C A V M : Type 0} (own : Meaning P C A V M) (fated : Fated) (core : Progress P C A V M) (shelf : ShelfState)
    → Reaches (first_state core.limits.partitions core.limits.workers) core.history core.state → core.history ≡ []
    → IsRunning own fated core shelf (record { core = core; calls = 0; losses = [] })
running_first own fated core shelf leads none =
    let start : State = first_state core.limits.partitions core.limits.workers in
    let state : core.state ≡ start = nowhere_yet start core.state core.history leads none in
    record {
      same = record { program_is = refl; combiner_is = refl; master_is = refl; graph_is = refl; limits_are = refl; run_is = refl };
      leads = leads;
      losses_are = ap (λ (h : List Event). losses_in start h) (sym none);
      fated_are = tt;
      right = λ kept right trusts. right;
      calls_are = λ kept right trusts.
          ap (λ (h : List Event). capped (counts_in (needs_of own.value_eq own.message_eq (job_of_meaning own core) core.graph core.limits.partitions kept)
          (λ p. false) start h)) (sym none);
      saved = λ honest kept right p r within at. absurd (unsaved p r within (ap (saved_at p) (sym state) ∙ at));
    }
  where
    unsaved : (p r : ℕ) → p < core.limits.partitions → saved_at p (first_state core.limits.partitions core.limits.workers) ≡ Some r → ⊥
    unsaved p r within at =
        let zero_first : 0 + p ≡ p = omega arith in
        let none_there : None ≡ Some r = sym (get_or-map-range_with_len (λ (p : ℕ). None) 0 core.limits.partitions p p None within zero_first) ∙ at in
        true≢false (sym (ap is_some none_there))
