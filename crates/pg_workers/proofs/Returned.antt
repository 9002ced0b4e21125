-- What workers give back of what they were assigned.
use Rattle.std.proofs.Common.{◌≡◌, ◌≢◌, ℕ, zero, suc, ◌+◌, ◌<◌, ◌≤◌, Bool, true, List, [], ◌∷◌, ◌++◌, length, get_or, set, refl}
use Rattle.std.proofs.Common.{ap, sym, ◌∙◌, subst, subst₂, arith, Option, None, Some, is_some, Result, Ok, Err, Vec, Global, inl, inr}
use Rattle.std.specs.Prelude.{All, IfOk, IfErr, slice_index_or}
use Rattle.std.specs.List.{AllPairs, AllZip}
use Rattle.std.proofs.lemmas.Bool.{cases_eq, leb-true, true≢false}
use Rattle.std.proofs.lemmas.List.{get_or-set_other}
use Rattle.std.proofs.lemmas.List.Elements.{All-cons, All-head, All-nil, All-tail}
use Rattle.std.proofs.lemmas.Option.{same_Some}
use Rattle.std.proofs.lemmas.Result.{IfErr-weaker, IfOk-weaker}
use Rattle.pg_core.specs.Progress.{IsNext, IsRight, IsStepOf, Progress, kept_for}
use Rattle.pg_core.specs.Traces.{logs_in, visible_in}
use Rattle.pg_core.proofs.Steps.{IsNext-from_IsAdvanced, IsStepOf-from_HasMadeStep, borrowed_warm, borrowed_run}
use Rattle.pg_graph.specs.Rows.{Rows}
use Rattle.pg_core.specs.Handed.{State, host_of, is_allowed, is_from, place_at, Step}
use Rattle.pg_core.proofs.Handed.{some_within, StepsFrom-from_allowed}
use Rattle.pg_model.specs.Job.{Job}
use Rattle.pg_model.specs.Needed.{needed_in}
use Rattle.pg_model.specs.Run.{visible_at}
use Rattle.pg_model.specs.Share.{belongs}
use Rattle.pg_model.specs.Superstep.{capped}
use Rattle.pg_workers_rounds.specs.Handed.{PartState}
use Rattle.pg_stats.specs.GlobalStats.{aggregators_of}
use Rattle.pg_workers.proofs.Taking.{borrows_before}
use Rattle.pg_workers.specs.Losses.{Fated}
use Rattle.pg_workers.specs.Meaning.{Meaning, job_of_meaning}
use Rattle.pg_workers.specs.Recovering.{IsFall}
use Rattle.pg_workers.specs.Rounds.{AreAssigned, AreNext, AreRecorded, AreReturned, AreStepsRight, ComesEarlier, HasFallen}
use Rattle.pg_workers.specs.Rounds.{HasNone, IsAssigned, IsBack, IsReturned, IsStepRight}
use Rattle.pg_workers.specs.Rounds.{IsTaken, Borrows, NoneBefore, fallen_in, with_outcome, with_outcomes, with_steps}
use Rattle.pg_workers.specs.declared.counts.Loss.{Loss}
use Rattle.pg_workers_rounds.specs.Outcomes.{AreOutcomes, IsOutcome}
use Rattle.pg_workers_rounds.specs.Round.{RoundOf}
use Rattle.pg_workers_rounds.specs.Work.{IsDone, IsStruck}
use Rattle.pg_workers_rounds.specs.declared.cause.Cause.{Cause}
use Rattle.pg_workers_rounds.specs.declared.cause.Cause.TheVariants.{Fate}
use Rattle.pg_workers_rounds.specs.declared.threads.Assignment.{Assignment}
use Rattle.pg_workers_rounds.specs.declared.threads.Outcome.{Outcome}
use Rattle.pg_workers_rounds.specs.declared.working.Done.{Done}

-- what holds of each x, and of it and its y, gives what holds of each y
zip_all : {A B : Type 0} (R : A → B → Type 0) (Q : A → Type 0) (W : B → Type 0) (xs : List A) (ys : List B)
    → ((x : A) (y : B) → Q x → R x y → W y) → All Q xs → AllZip R xs ys → All W ys
zip_all R Q W [] [] f all zip = All-nil W
zip_all R Q W [] (y ∷ ys) f all zip = absurd zip
zip_all R Q W (x ∷ xs) [] f all zip = absurd zip
zip_all R Q W (x ∷ xs) (y ∷ ys) f all zip =
    All-cons W y ys (f x y (All-head Q x xs all) zip.0) (zip_all R Q W xs ys f (All-tail Q x xs all) zip.1)

module _ {P C A V M : Type 0} (own : Meaning P C A V M) (fated : Fated) (superstep attempt : ℕ) (core : Progress P C A V M)
    (round : RoundOf M) (borrows : Borrows own core superstep attempt round) where
  abbrev job : Job V M
  job = job_of_meaning own core

  -- the step of a part that was taken is given back
  back_from_taken : (worker : ℕ) (part : PartState V M) (done : Done V M) → IsTaken own core superstep worker part
      → IsDone own.value_eq own.message_eq (own.program core.program) (own.combining core.combiner) (record round { worker = worker }) part done
      → IsBack own core worker done
  back_from_taken worker part done taken is =
      let p : ℕ = part.part_run.partition in
      let r : ℕ = part.part_run.place in
      let n : ℕ = core.limits.partitions in
      let same : done.part.part_run.partition ≡ p = is.advanced.partition_stays in
      let made = λ (kept : Option Rows) (right : IsRight job kept core).
      (let step_input = taken.step_input kept right in
      is.stepped job (kept_for kept core p) core.graph n p r refl refl (ap (λ l. aggregators_of l) (sym borrows.registry_is))
      step_input.holds
      (borrowed_run job kept core p r part step_input round.logs round.visible None None borrows.logs_are
      (borrows.shows kept right ∙ ap (visible_at job core.graph) (sym taken.place_is)))
      (borrowed_warm job kept core p r part step_input round.logs round.visible round.old_logs round.old_visible borrows.logs_are
      (borrows.old_logs_are ∙ ap (λ (s : ℕ). logs_in s core.kept) (sym taken.place_is))
      (borrows.old_visible_is ∙ ap (λ (s : ℕ). visible_in s core.kept) (sym taken.place_is)))) in
      record {
        within = subst (λ (q : ℕ). q < n) (sym same) taken.within;
        host_is = ap (λ (q : ℕ). host_of q core.state) same ∙ taken.host_is;
        allowed = ap (λ (q : ℕ). is_allowed core.state (Step q)) same ∙ taken.allowed;
        next = subst (λ (q : ℕ). IsNext n core.state q done.part) (sym same)
            (IsNext-from_IsAdvanced n core.state p part done.part taken.at is.advanced);
        step_of = λ kept right. subst (λ (q : ℕ). IsStepOf job kept core q done.part done.sent) (sym same)
            (IsStepOf-from_HasMadeStep job kept core p r done.part done.sent own.value_eq own.message_eq 0 done.calls taken.at.place_is (made kept right));
        counted = λ kept s right at.
            let here : place_at p core.state ≡ Some s = ap (λ (q : ℕ). place_at q core.state) (sym same) ∙ at in
            let place : r ≡ s = same_Some r s (sym taken.at.place_is ∙ here) in
            let none : (x : ℕ) → capped (0 + x) ≡ capped x = λ x. omega arith in
            subst₂ (λ (q k : ℕ). done.calls ≡ capped (needed_in own.value_eq own.message_eq job (kept_for kept core q) core.graph (belongs n q) k))
            (sym same) place
            ((made kept right).part_run.counted ∙ none (needed_in own.value_eq own.message_eq job (kept_for kept core p) core.graph (belongs n p) r));
      }

  -- a worker that fell had a part
  fallen_from_taken : (worker : ℕ) (parts : List (PartState V M)) (cause : Cause) → 0 < length parts → All (IsTaken own core superstep worker) parts
      → (cause ≡ Fate → IsStruck fated (record round { worker = worker }) parts) → HasFallen fated superstep attempt core.state worker cause
  fallen_from_taken worker [] cause some taken struck = absurd (omega (arith, some))
  fallen_from_taken worker (part ∷ parts) cause some taken struck =
      let one : IsTaken own core superstep worker part = All-head (IsTaken own core superstep worker) part parts taken in
      record {
        partition = part.part_run.partition;
        host_is = one.host_is;
        allowed = one.allowed;
        place_is = one.at.place_is ∙ ap Some one.place_is;
        struck = λ is.
            let by = struck is in
            record {
              attempt = attempt;
              partition = by.part.part_run.partition;
              early = omega arith;
              falls = (λ i. fated (sym borrows.superstep_is i) (sym borrows.attempt_is i) worker by.part.part_run.partition) ∙ by.struck;
            };
      }

  returned_from_outcome : (assignment : Assignment V M) (outcome : Outcome V M) → IsAssigned own core superstep assignment
      → IsOutcome own.value_eq own.message_eq (own.program core.program) (own.combining core.combiner) fated round assignment outcome
      → IsReturned own fated superstep attempt core outcome
  returned_from_outcome assignment outcome assigned is = record {
    done = subst (λ (w : ℕ). IfOk outcome.done (λ dones. All (IsBack own core w) dones.items)) (sym is.worker)
        (IfOk-weaker outcome.done _ (λ dones. All (IsBack own core assignment.worker) dones.items)
        (λ dones zip. zip_all _ (IsTaken own core superstep assignment.worker) (IsBack own core assignment.worker) assignment.parts.items dones.items
        (λ part done taken made. back_from_taken assignment.worker part done taken made) assigned.parts zip) is.done);
    fell = subst (λ (w : ℕ). IfErr outcome.done (λ cause. HasFallen fated superstep attempt core.state w cause)) (sym is.worker)
        (IfErr-weaker outcome.done _ (λ cause. HasFallen fated superstep attempt core.state assignment.worker cause)
        (λ cause struck. fallen_from_taken assignment.worker assignment.parts.items cause assigned.some assigned.parts struck) is.struck);
  }

  pub returned : (below : ℕ) (rest : Progress P C A V M) (assignments : List (Assignment V M)) (outcomes : List (Outcome V M))
      → AreAssigned own core superstep below rest assignments
      → AreOutcomes own.value_eq own.message_eq (own.program core.program) (own.combining core.combiner) fated round assignments outcomes
      → AreReturned own fated superstep attempt core outcomes
  returned below rest assignments outcomes assigned are = record {
    rise = λ i j d less within. rises i j d less within assignments assigned.rise are.many are.each;
    each = λ k d within. one k d within assignments assigned.each are.many are.each;
  }
    where
      rises : (i j : ℕ) (d : Outcome V M) → i < j → j < length outcomes → (assignments : List (Assignment V M))
          → AllPairs (λ (a b : Assignment V M). a.worker < b.worker) assignments
          → length outcomes ≡ length assignments
          → ((i : ℕ) (a : Assignment V M) (o : Outcome V M) → i < length assignments
          → IsOutcome own.value_eq own.message_eq (own.program core.program) (own.combining core.combiner) fated round (get_or assignments i a)
          (get_or outcomes i o))
          → (get_or outcomes i d).worker < (get_or outcomes j d).worker
      rises i j d less within [] rise many each = absurd (omega (arith, many, within))
      rises i j d less within (a ∷ later) rise many each =
          let first = (each i a d (omega (arith, less, within, many))).worker in
          let second = (each j a d (omega (arith, within, many))).worker in
          omega (arith, first, second, rise i j a less (omega (arith, within, many)))

      one : (k : ℕ) (d : Outcome V M) → k < length outcomes → (assignments : List (Assignment V M)) → All (IsAssigned own core superstep) assignments
          → length outcomes ≡ length assignments
          → ((i : ℕ) (a : Assignment V M) (o : Outcome V M) → i < length assignments
          → IsOutcome own.value_eq own.message_eq (own.program core.program) (own.combining core.combiner) fated round (get_or assignments i a)
          (get_or outcomes i o))
          → IsReturned own fated superstep attempt core (get_or outcomes k d)
      one k d within [] all many each = absurd (omega (arith, many, within))
      one k d within (a ∷ later) all many each =
          let inside : k < length (a ∷ later) = omega (arith, many, within) in
          returned_from_outcome (get_or (a ∷ later) k a) (get_or outcomes k d) (all k a inside) (each k a d inside)

-- ---- the steps by partition

pairs_head : {X : Type 0} (R : X → X → Type 0) (x : X) (xs : List X) → AllPairs R (x ∷ xs) → All (R x) xs
pairs_head R x xs pairs k d within = pairs 0 (suc k) d (omega arith) (omega (arith, within))

pairs_tail : {X : Type 0} (R : X → X → Type 0) (x : X) (xs : List X) → AllPairs R (x ∷ xs) → AllPairs R xs
pairs_tail R x xs pairs i j d less within = pairs (suc i) (suc j) d (omega (arith, less)) (omega (arith, within))

-- what stands in a place after something was put there
put_here : {X : Type 0} (xs : List (Option X)) (p : ℕ) (x y : X) → get_or (set xs p (Some x)) p None ≡ Some y → x ≡ y
put_here [] p x y is = absurd (true≢false (sym (ap is_some is)))
put_here (z ∷ xs) zero x y is = same_Some x y is
put_here (z ∷ xs) (suc p) x y is = put_here xs p x y is

module _ {P C A V M : Type 0} (own : Meaning P C A V M) (core : Progress P C A V M) where
  -- a step stands at the place of its partition, given back by the worker that hosts it
  IsGood : ℕ → Done V M → Type 0
  IsGood p done = IsBack own core (host_of p core.state) done × (done.part.part_run.partition ≡ p)

  AreGood : List (Option (Done V M)) → Type 0
  AreGood steps = (p : ℕ) (done : Done V M) → slice_index_or steps p None ≡ Some done → IsGood p done

  -- steps of one worker
  with_good : (worker : ℕ) (dones : List (Done V M)) (steps : List (Option (Done V M))) → All (IsBack own core worker) dones → AreGood steps
      → AreGood (with_steps dones steps)
  unfolding AreGood IsGood
  with_good worker [] steps back good = good
  with_good worker (done ∷ dones) steps back good =
      let one : IsBack own core worker done = All-head (IsBack own core worker) done dones back in
      with_good worker dones (set steps done.part.part_run.partition (Some done)) (All-tail (IsBack own core worker) done dones back)
      (λ p other at. elim (cases_eq p done.part.part_run.partition) [
        | inl same ↦ (
            let here : done ≡ other = put_here steps done.part.part_run.partition done other
            (ap (λ (q : ℕ). get_or (set steps done.part.part_run.partition (Some done)) q None) (sym same) ∙ at) in
            let host : worker ≡ host_of p core.state = sym one.host_is ∙ ap (λ (q : ℕ). host_of q core.state) (sym same) in
            (subst₂ (λ (w : ℕ) (d : Done V M). IsBack own core w d) host here one, ap (λ (d : Done V M). d.part.part_run.partition) (sym here) ∙ sym same)
            )
        | inr apart ↦ good p other (sym (get_or-set_other steps done.part.part_run.partition p (Some done) None apart) ∙ at)
      ])

  -- they leave the places of others' partitions
  with_others : (worker : ℕ) (dones : List (Done V M)) (steps : List (Option (Done V M))) (p : ℕ) → All (IsBack own core worker) dones
      → host_of p core.state ≢ worker → slice_index_or (with_steps dones steps) p None ≡ slice_index_or steps p None
  with_others worker [] steps p back apart = refl
  with_others worker (done ∷ dones) steps p back apart =
      let one : IsBack own core worker done = All-head (IsBack own core worker) done dones back in
      with_others worker dones (set steps done.part.part_run.partition (Some done)) p (All-tail (IsBack own core worker) done dones back) apart
      ∙ get_or-set_other steps done.part.part_run.partition p (Some done) None
      (λ same. apart (ap (λ (q : ℕ). host_of q core.state) same ∙ one.host_is))

  module _ (fated : Fated) (superstep attempt : ℕ) where
    abbrev Returned : Outcome V M → Type 0
    Returned outcome = IsReturned own fated superstep attempt core outcome

    outcome_good : (outcome : Outcome V M) (steps : List (Option (Done V M))) → Returned outcome → AreGood steps → AreGood (with_outcome outcome steps)
    outcome_good outcome steps is good = by outcome.done is.done
      where
        by : (done : Result (Vec (Done V M) Global) Cause) → IfOk done (λ dones. All (IsBack own core outcome.worker) dones.items)
            → AreGood (elim done [ Ok dones ↦ with_steps dones.items steps | Err cause ↦ steps ])
        by (Ok dones) back = with_good outcome.worker dones.items steps back good
        by (Err cause) back = good

    outcome_others : (outcome : Outcome V M) (steps : List (Option (Done V M))) (p : ℕ) → Returned outcome → host_of p core.state ≢ outcome.worker
        → slice_index_or (with_outcome outcome steps) p None ≡ slice_index_or steps p None
    outcome_others outcome steps p is apart = by outcome.done is.done
      where
        by : (done : Result (Vec (Done V M) Global) Cause) → IfOk done (λ dones. All (IsBack own core outcome.worker) dones.items)
            → slice_index_or (elim done [ Ok dones ↦ with_steps dones.items steps | Err cause ↦ steps ]) p None ≡ slice_index_or steps p None
        by (Ok dones) back = with_others outcome.worker dones.items steps p back apart
        by (Err cause) back = refl

    all_others : (outcomes : List (Outcome V M)) (steps : List (Option (Done V M))) (p : ℕ) → All Returned outcomes
        → All (λ (o : Outcome V M). host_of p core.state < o.worker) outcomes
        → slice_index_or (with_outcomes outcomes steps) p None ≡ slice_index_or steps p None
    all_others [] steps p are later = refl
    all_others (outcome ∷ outcomes) steps p are later =
        let less = All-head (λ (o : Outcome V M). host_of p core.state < o.worker) outcome outcomes later in
        all_others outcomes (with_outcome outcome steps) p (All-tail Returned outcome outcomes are)
        (All-tail (λ (o : Outcome V M). host_of p core.state < o.worker) outcome outcomes later)
        ∙ outcome_others outcome steps p (All-head Returned outcome outcomes are) (λ same. omega (arith, same, less))

    -- a worker fell, and no step stands at a partition of it that stands at the superstep
    pub record IsUnnoted (steps : List (Option (Done V M))) (loss : Loss) : Type 0 where
      pub superstep_is : loss.superstep ≡ superstep
      pub fallen : HasFallen fated superstep attempt core.state loss.worker loss.cause
      pub unnoted : slice_index_or steps fallen.partition None ≡ None

    -- the steps that stand there are of workers before all of these
    Precede : List (Option (Done V M)) → List (Outcome V M) → Type 0
    Precede steps outcomes = (p : ℕ) (done : Done V M) → slice_index_or steps p None ≡ Some done
        → All (λ (o : Outcome V M). host_of p core.state < o.worker) outcomes

    collected_good : (outcomes : List (Outcome V M)) (steps : List (Option (Done V M))) → All Returned outcomes → AreGood steps
        → AreGood (with_outcomes outcomes steps)
    collected_good [] steps are good = good
    collected_good (outcome ∷ outcomes) steps are good =
        collected_good outcomes (with_outcome outcome steps) (All-tail Returned outcome outcomes are)
        (outcome_good outcome steps (All-head Returned outcome outcomes are) good)

    precede_more : (outcome : Outcome V M) (outcomes : List (Outcome V M)) (steps : List (Option (Done V M))) → AllPairs ComesEarlier (outcome ∷ outcomes)
        → Returned outcome → Precede steps (outcome ∷ outcomes) → Precede (with_outcome outcome steps) outcomes
    unfolding Precede
    precede_more outcome outcomes steps rise is before p done at = elim (cases_eq (host_of p core.state) outcome.worker) [
      | inl same ↦ subst (λ (w : ℕ). All (λ (o : Outcome V M). w < o.worker) outcomes) (sym same) (pairs_head ComesEarlier outcome outcomes rise)
      | inr apart ↦ All-tail (λ (o : Outcome V M). host_of p core.state < o.worker) outcome outcomes
          (before p done (sym (outcome_others outcome steps p is apart) ∙ at))
    ]

    -- a worker that fell has no step there, as those that stand there are of workers before it
    unnoted_here : (steps : List (Option (Done V M))) (outcome : Outcome V M) (outcomes : List (Outcome V M)) (q : ℕ) → Precede steps (outcome ∷ outcomes)
        → host_of q core.state ≡ outcome.worker → slice_index_or steps q None ≡ None
    unfolding Precede
    unnoted_here steps outcome outcomes q before host = by (slice_index_or steps q None) refl
      where
        by : (o : Option (Done V M)) → slice_index_or steps q None ≡ o → slice_index_or steps q None ≡ None
        by None at = at
        by (Some done) at =
            let less = All-head (λ (o : Outcome V M). host_of q core.state < o.worker) outcome outcomes (before q done at) in
            absurd (omega (arith, less, host))

    collected_fallen : (outcomes : List (Outcome V M)) (steps : List (Option (Done V M))) → All Returned outcomes → AllPairs ComesEarlier outcomes
        → Precede steps outcomes → All (IsUnnoted (with_outcomes outcomes steps)) (fallen_in superstep outcomes)
    collected_fallen [] steps are rise before = All-nil (IsUnnoted steps)
    collected_fallen (outcome ∷ outcomes) steps are rise before =
        let one : Returned outcome = All-head Returned outcome outcomes are in
        let rest = collected_fallen outcomes (with_outcome outcome steps) (All-tail Returned outcome outcomes are)
        (pairs_tail ComesEarlier outcome outcomes rise)
        (precede_more outcome outcomes steps rise one before) in
        by outcome.done refl one.fell rest
      where
        by : (done : Result (Vec (Done V M) Global) Cause) → outcome.done ≡ done
            → IfErr done (λ cause. HasFallen fated superstep attempt core.state outcome.worker cause)
            → All (IsUnnoted (with_outcomes outcomes (with_outcome outcome steps))) (fallen_in superstep outcomes)
            → All (IsUnnoted (with_outcomes outcomes (with_outcome outcome steps)))
            ((elim done [ Ok dones ↦ [] | Err cause ↦ record { worker = outcome.worker; superstep = superstep; cause = cause } ∷ [] ]) ++ fallen_in superstep
            outcomes)
        by (Ok dones) is fell rest = rest
        by (Err cause) is fell rest =
            All-cons (IsUnnoted (with_outcomes outcomes (with_outcome outcome steps))) _ (fallen_in superstep outcomes) (record {
              superstep_is = refl;
              fallen = fell;
              unnoted =
                  all_others outcomes (with_outcome outcome steps) fell.partition (All-tail Returned outcome outcomes are)
                  (subst (λ (w : ℕ). All (λ (o : Outcome V M). w < o.worker) outcomes) (sym fell.host_is) (pairs_head ComesEarlier outcome outcomes rise))
                  ∙ (ap (λ (d : Result (Vec (Done V M) Global) Cause). slice_index_or
                  (elim d [ Ok dones ↦ with_steps dones.items steps | Err cause ↦ steps ]) fell.partition None) is
                  ∙ unnoted_here steps outcome outcomes fell.partition before fell.host_is);
            }) rest

    -- ---- of a round

    module _ (outcomes : List (Outcome V M)) (none : List (Option (Done V M))) (empty : HasNone none)
        (are : AreReturned own fated superstep attempt core outcomes) where
      no_step : (p : ℕ) (done : Done V M) → slice_index_or none p None ≡ Some done → ⊥
      no_step p done at = true≢false (sym (ap is_some (sym (empty p) ∙ at)))

      all_good : AreGood (with_outcomes outcomes none)
      unfolding AreGood
      all_good = collected_good outcomes none are.each (λ p done at. absurd (no_step p done at))

      pub all_unnoted : All (IsUnnoted (with_outcomes outcomes none)) (fallen_in superstep outcomes)
      unfolding Precede
      all_unnoted = collected_fallen outcomes none are.each are.rise (λ p done at. absurd (no_step p done at))

      pub all_next : AreNext core (with_outcomes outcomes none)
      unfolding AreGood IsGood
      all_next p done at =
          let good = all_good p done at in (
            good.1,
            (
              ap (λ (q : ℕ). is_allowed core.state (Step q)) (sym good.1) ∙ good.0.allowed,
              subst (λ (q : ℕ). IsNext core.limits.partitions core.state q done.part) good.1 good.0.next,
            ),
          )

      pub all_right : (kept : Option Rows) → IsRight (job_of_meaning own core) kept core → AreStepsRight own kept core (with_outcomes outcomes none)
      unfolding AreGood IsGood
      all_right kept right p done at =
          let good = all_good p done at in
          subst (λ (q : ℕ). IsStepRight own kept core q done) good.1 (record {
            step_of = good.0.step_of kept right;
            counted = λ r there. good.0.counted kept r right there;
          })

    -- once the steps are recorded it is a loss to be recorded
    pub fall_from_unnoted : (steps : List (Option (Done V M))) (now : State) (loss : Loss) → AreRecorded steps core.state now → IsUnnoted steps loss
        → IsFall fated attempt now loss
    fall_from_unnoted steps now loss recorded is =
        let fell = is.fallen in
        let from = StepsFrom-from_allowed core.state fell.partition fell.allowed in
        let at : from.from ≡ superstep = same_Some from.from superstep (sym from.at ∙ fell.place_is) in
        let none : NoneBefore superstep core.state =
        λ q r there. leb_at q r there (subst (λ (k : ℕ). is_from k (place_at q core.state) ≡ true) at
        (from.others q (some_within core.state.places q r there))) in
        record {
          lowest = λ q r there. omega (arith, is.superstep_is, recorded.none_before superstep none q r there);
          there = λ alive. record {
            partition = fell.partition;
            host_is = ap (λ (l : List ℕ). slice_index_or l fell.partition 0) recorded.hosts ∙ fell.host_is;
            place_is = recorded.places fell.partition is.unnoted ∙ (fell.place_is ∙ ap Some (sym is.superstep_is));
          };
          struck = λ cause.
              let was = fell.struck cause in
              record {
                attempt = was.attempt;
                partition = was.partition;
                early = was.early;
                falls = ap (λ (k : ℕ). fated k was.attempt loss.worker was.partition) is.superstep_is ∙ was.falls;
              };
        }
      where
        leb_at : (q r : ℕ) → place_at q core.state ≡ Some r → is_from superstep (place_at q core.state) ≡ true → superstep ≤ r
        leb_at q r there from =
            leb-true superstep r (ap (λ (o : Option ℕ). is_from superstep o) (sym there) ∙ from)

-- what the workers of a round made of what they were assigned is returned, of whatever core their parts were taken from
module _ {P C A V M : Type 0} (own : Meaning P C A V M) (fated : Fated) (superstep attempt : ℕ) (now : Progress P C A V M)
    (round : RoundOf M) (borrows : Borrows own now superstep attempt round) (program : P) (combiner : C)
    (program_is : program ≡ now.program) (combiner_is : combiner ≡ now.combiner) (assignments : List (Assignment V M)) where
  pub all_returned : {E : Type 0} (result : Result (Vec (Outcome V M) Global) E)
      → IfOk result (λ outcomes. AreOutcomes own.value_eq own.message_eq (own.program program) (own.combining combiner) fated round
      assignments outcomes.items)
      → IfOk result (λ outcomes. (before : Progress P C A V M) (below : ℕ) → AreAssigned own before superstep below now assignments
      → AreReturned own fated superstep attempt before outcomes.items)
  all_returned result are =
      IfOk-weaker result _ _ (λ outcomes each before below assigned.
      let remaining = assigned.taken in
      returned own fated superstep attempt before round (borrows_before own before now superstep attempt round remaining borrows) below now
      assignments outcomes.items assigned
      (subst₂ (λ (p : P) (c : C). AreOutcomes own.value_eq own.message_eq (own.program p) (own.combining c) fated round assignments
      outcomes.items)
      (program_is ∙ ap (λ (core : Progress P C A V M). core.program) remaining.core_is)
      (combiner_is ∙ ap (λ (core : Progress P C A V M). core.combiner) remaining.core_is) each)) are
