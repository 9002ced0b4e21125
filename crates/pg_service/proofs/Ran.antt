-- What a run that was opened by a service, and driven by workers, gives.
use Rattle.std.proofs.Common.{◌≡◌, ℕ, ◌+◌, zero, suc, Bool, true, ◌||◌, [], ◌∷◌, map, replicate, Option, Result, Ok, Err, IfOk, refl, ap, sym, subst, ◌∙◌}
use Rattle.std.specs.List.{range_with_len}
use Rattle.pg_workers.specs.Handed.{IsOpened, IsRight, Limits, Progress, Traces}
use Rattle.pg_workers.proofs.Handed.{job_as_opened}
use Rattle.pg_graph.specs.Rows.{HasRisingIds, Rows}
use Rattle.pg_model.specs.Job.{Job}
use Rattle.pg_model.specs.Run.{answer, run_length}
use Rattle.pg_model.specs.declared.run.Run.{Run}
use Rattle.pg_publish.specs.Answers.{HaveRisingIds}
use Rattle.pg_service.specs.Job.{ServiceJob, job_of_service}
use Rattle.pg_service.specs.Service.{IsRun}
use Rattle.pg_service.proofs.AnswersRise.{answer_rises}
use Rattle.pg_workers.specs.Driven.{IsAnswered, IsDriven, IsUnlost}
use Rattle.pg_workers.specs.Meaning.{Meaning, job_of_meaning}
use Rattle.pg_workers.specs.declared.counts.Counts.{Counts}
use Rattle.pg_workers.specs.Losses.{Fated}

-- the same for each partition
each_so : {A : Type 0} (n first : ℕ) (a : A) → map (λ p. a) (range_with_len first n) ≡ replicate n a
each_so zero first a = refl
each_so (suc n) first a = ap (λ rest. a ∷ rest) (each_so n (first + 1) a)

or_true : (b c : Bool) → b ≡ true → (b || c) ≡ true
or_true b c is = rw is refl

supersteps_of : {V M : Type 0} (job : Job V M) (graph : Rows) → run_length job graph ≡ (answer job graph).supersteps
unfolding answer
supersteps_of job graph = refl

module _ {P C A V M : Type 0} (own : Meaning P C A V M) (job : ServiceJob P C A) (graph : Rows) (kept : Option Rows) (core : Progress P C A V M)
    (fated : Fated) (honest : Bool) (number : ℕ)
    (opened : IsOpened core job.program job.combiner job.master graph job.limits number) (right : IsRight (job_of_meaning own core) kept core) where
  abbrev Meant : Job V M
  Meant = job_of_service own.program own.combining own.master job

  abbrev Ran : Job V M → Rows → Limits → Run V → Traces V M → Counts → Type 0
  Ran j rows limits run retained counts = HasRisingIds rows → IsRun j own.value_eq own.message_eq fated limits kept rows run retained counts

  module _ (run : Run V) (retained : Traces V M) (counts : Counts) (trusted : honest ≡ true) (driven : IsDriven own fated honest core run retained counts)
      (unlost : (old : Option Rows) → IsRight (job_of_meaning own core) old core → counts.losses ≡ [] → IsUnlost own old core run retained counts)
      (cold : core.limits.workers ≡ 1 → counts.losses ≡ []) where
    at_core : Ran (job_of_meaning own core) core.graph core.limits run retained counts
    at_core rises =
        let answered : IsAnswered own kept core driven.history run retained counts = driven.right kept right (or_true honest _ trusted) in
        record {
          answers = answered.answers;
          rising = subst (λ (r : Run V). HaveRisingIds r.values) (sym answered.answers) (answer_rises (job_of_meaning own core) core.graph rises);
          leaves = answered.leaves;
          counted = record {
            history = driven.history;
            tells = answered.counted;
            few = driven.few;
            fated_are = driven.fated_are;
            cold = cold;
            unlost = λ none.
                let u = unlost kept right none in (
                  u.calls_are,
                  u.steps_are ∙ each_so core.limits.partitions 0 (run_length (job_of_meaning own core) core.graph)
                      ∙ ap (replicate core.limits.partitions) (supersteps_of (job_of_meaning own core) core.graph),
                );
          };
        }

    -- a run that was driven
    pub ran : IsRun Meant own.value_eq own.message_eq fated job.limits kept graph run retained counts
    ran =
        subst (λ (l : Limits). Ran Meant graph l run retained counts) opened.limits_are
        (subst (λ (r : Rows). Ran Meant r core.limits run retained counts) opened.graph_is
        (subst (λ (j : Job V M). Ran j core.graph core.limits run retained counts) (sym (job_as_opened own.program own.combining own.master opened)) at_core))
        opened.rising

  -- so it is of whatever a run answers
  pub ran_if : {X E : Type 0} (result : Result ((Run V × Traces V M × X) × Counts) E) → honest ≡ true
      → IfOk result (λ r. IsDriven own fated honest core r.0.0 r.0.1 r.1)
      → IfOk result (λ r. (old : Option Rows) → IsRight (job_of_meaning own core) old core → r.1.losses ≡ [] → IsUnlost own old core r.0.0 r.0.1 r.1)
      → IfOk result (λ r. core.limits.workers ≡ 1 → r.1.losses ≡ [])
      → IfOk result (λ r. IsRun Meant own.value_eq own.message_eq fated job.limits kept graph r.0.0 r.0.1 r.1)
  ran_if (Ok r) trusted driven unlost cold = ran r.0.0 r.0.1 r.1 trusted driven unlost cold
  ran_if (Err e) trusted driven unlost cold = tt
