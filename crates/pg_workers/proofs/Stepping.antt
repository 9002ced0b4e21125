-- Steps that are recorded one after another.
use Rattle.std.proofs.Common.{◌≡◌, ℕ, zero, suc, ◌+◌, ◌<◌, ◌≢◌, Bool, true, cond, not, List, [], ◌∷◌, length, map, get_or, set, Option, None, Some, is_some}
use Rattle.std.proofs.Common.{refl, ap, sym, ◌∙◌, subst, subst₂, arith, inl, inr}
use Rattle.std.specs.Prelude.{nat_le, slice_index_or}
use Rattle.std.proofs.lemmas.Bool.{and_from, and_parts, cases_eq, le-leb, leb-true, true≢false}
use Rattle.std.proofs.lemmas.List.{append-nil, get_or_default, get_or-set_other}
use Rattle.std.proofs.lemmas.List.Sums.{list_all-from_AllPass}
use Rattle.std.proofs.lemmas.Option.{same_Some}
use Rattle.pg_checkpoint.specs.Shelf.{ShelfState}
use Rattle.pg_core.specs.Driving.{IsSameRun, needs_of}
use Rattle.pg_core.specs.Progress.{IsNext, IsRight, IsStepFrom, IsStepOf, Progress, TakesIn, has_lost, kept_for}
use Rattle.pg_graph.specs.Rows.{Rows}
use Rattle.pg_core.specs.Handed.{Limits, State, after, first_state, is_allowed, is_from, may_step, place_at, was_lost}
use Rattle.pg_core.specs.Handed.{Step}
use Rattle.pg_core.proofs.Handed.{length-places, was_lost-stays}
use Rattle.pg_core.proofs.Handed.{StepsFrom-from_allowed, place_after_other, place_after_own}
use Rattle.pg_model.specs.Job.{Job}
use Rattle.pg_model.specs.Needed.{needed_in}
use Rattle.pg_model.specs.Share.{belongs}
use Rattle.pg_model.specs.Superstep.{capped}
use Rattle.pg_workers_rounds.specs.Handed.{PartState}
use Rattle.pg_workers.specs.Losses.{AreFated, Fated, Trusts, as_reported}
use Rattle.pg_workers.specs.Meaning.{Meaning, job_of_meaning}
use Rattle.pg_workers.specs.Rounds.{AreNext, AreRecorded, AreStepsRight, IsStepRight, NoneBefore}
use Rattle.pg_workers.specs.Running.{Coordination, Happens, IsRunning}
use Rattle.pg_workers.proofs.Going.{job_stays, running_after, same_then, trusts_before}
use Rattle.pg_workers_rounds.specs.declared.working.Done.{Done}

-- ---- the machine

-- a step of one partition leaves another's allowed
pub allowed_after : (state : State) (p q : ℕ) → is_allowed state (Step p) ≡ true → p ≢ q → is_allowed (after state (Step q)) (Step p) ≡ true
allowed_after state p q allowed apart =
    let steps = StepsFrom-from_allowed state p allowed in
    let r : ℕ = steps.from in
    let on = (and_parts (not state.ended) _ allowed).0 in
    let next : State = after state (Step q) in
    let at : place_at p next ≡ Some r = place_after_other state q p apart ∙ steps.at in
    let reach : nat_le r state.current ≡ true = le-leb r state.current steps.open_or_before in
    let all = list_all-from_AllPass (is_from r) next.places (λ k d inside.
    subst (λ place. is_from r place ≡ true) (get_or_default next.places k None d inside) (by k inside)) in
    and_from _ _ on (subst (λ place. may_step next place ≡ true) (sym at) (and_from _ _ reach all))
  where
    stepped : (place : Option ℕ) → place_at q state ≡ place → is_from (StepsFrom-from_allowed state p allowed).from place ≡ true
        → is_from (StepsFrom-from_allowed state p allowed).from (place_at q (after state (Step q))) ≡ true
    stepped None at from = absurd (true≢false (sym from))
    stepped (Some k) at from = ap (is_from (StepsFrom-from_allowed state p allowed).from) (place_after_own state q k at)
        ∙ le-leb (StepsFrom-from_allowed state p allowed).from (k + 1) (omega (arith, leb-true _ k from))

    by : (k : ℕ) → k < length (after state (Step q)).places
        → is_from (StepsFrom-from_allowed state p allowed).from (place_at k (after state (Step q))) ≡ true
    by k inside =
        let steps = StepsFrom-from_allowed state p allowed in
        let before : is_from steps.from (place_at k state) ≡ true = steps.others k (omega (arith, inside, length-places state (Step q))) in
        elim (cases_eq k q) [
          | inl same ↦ subst (λ (k : ℕ). is_from steps.from (place_at k (after state (Step q))) ≡ true) (sym same)
              (stepped (place_at q state) refl (subst (λ (k : ℕ). is_from steps.from (place_at k state) ≡ true) same before))
          | inr other ↦ ap (is_from steps.from) (place_after_other state q k other) ∙ before
        ]

-- and takes none further back
pub none_before_step : (s q : ℕ) (state : State) → is_allowed state (Step q) ≡ true → NoneBefore s state → NoneBefore s (after state (Step q))
none_before_step s q state allowed none p r at =
    let steps = StepsFrom-from_allowed state q allowed in
    elim (cases_eq p q) [
      | inl same ↦ (
          let now : place_at q (after state (Step q)) ≡ Some r = ap (λ (u : ℕ). place_at u (after state (Step q))) (sym same) ∙ at in
          let is : steps.from + 1 ≡ r = same_Some (steps.from + 1) r (sym (place_after_own state q steps.from steps.at) ∙ now) in
          omega (arith, is, none q steps.from steps.at)
          )
      | inr apart ↦ none p r (sym (place_after_other state q p apart) ∙ at)
    ]

-- ---- one step

-- what is counted
pub counts_more : (x y d z : ℕ) → y ≡ capped x → d ≡ capped z → capped (y + d) ≡ capped (x + z)
counts_more x y d z a b = omega (arith, a, b)

pub happens_step : {P C A V M : Type 0} (a b : Progress P C A V M) (p : ℕ) (part : PartState V M) (sent : List _) → TakesIn p part sent a b
    → Happens (Step p) a b
happens_step a b p part sent takes = record {
  same = record {
    program_is = ap (λ core. core.program) takes.core_is;
    combiner_is = ap (λ core. core.combiner) takes.core_is;
    master_is = ap (λ core. core.master) takes.core_is;
    graph_is = ap (λ core. core.graph) takes.core_is;
    limits_are = ap (λ core. core.limits) takes.core_is;
    run_is = ap (λ core. core.run) takes.core_is;
  };
  state_is = ap (λ core. core.state) takes.core_is;
  history_is = ap (λ core. core.history) takes.core_is;
}

module _ {P C A V M : Type 0} (own : Meaning P C A V M) where
  pub running_step : (fated : Fated) (first : Progress P C A V M) (shelf : ShelfState) (a b : Coordination P C A V M) (p : ℕ) (done : Done V M)
      → is_allowed a.core.state (Step p) ≡ true → TakesIn p done.part done.sent a.core b.core
      → ((kept : Option Rows) → IsRight (job_of_meaning own a.core) kept a.core → IsStepOf (job_of_meaning own a.core) kept a.core p done.part done.sent
      → IsRight (job_of_meaning own a.core) kept b.core)
      → b.calls ≡ capped (a.calls + done.calls) → b.losses ≡ a.losses → IsRunning own fated first shelf a
      → ((kept : Option Rows) → IsRight (job_of_meaning own first) kept first → Trusts shelf.is_honest a.core.history → IsStepRight own kept a.core p done)
      → IsRunning own fated first shelf b
  running_step fated first shelf a b p done allowed takes keeps calls losses runs steps =
      let happens : Happens (Step p) a.core b.core = happens_step a.core b.core p done.part done.sent takes in
      let from = StepsFrom-from_allowed a.core.state p allowed in
      let there : job_of_meaning own a.core ≡ job_of_meaning own first = job_stays own runs.same in
      running_after own fated first (Step p) shelf shelf a b (record {
        allowed = allowed;
        happens = happens;
        honest = refl;
        right = λ kept right trusts is. keeps kept is (steps kept right (trusts_before shelf.is_honest a.core.history (Step p) trusts)).step_of;
        losses_are = ap (map as_reported) losses ∙ sym (append-nil (map as_reported a.losses));
        fated_are = λ are. subst (AreFated fated 0) (sym losses) are;
        calls_are = λ kept x right trusts was.
            let step = steps kept right (trusts_before shelf.is_honest a.core.history (Step p) trusts) in
            let needs : ℕ = needed_in own.value_eq own.message_eq (job_of_meaning own first) (kept_for kept a.core p) a.core.graph
            (belongs a.core.limits.partitions p) from.from in
            let counted : done.calls ≡ capped needs =
            subst (λ (j : Job V M). done.calls ≡ capped
            (needed_in own.value_eq own.message_eq j (kept_for kept a.core p) a.core.graph (belongs a.core.limits.partitions p) from.from)) there
            (step.counted from.from from.at) in
            calls ∙ (counts_more x a.calls done.calls needs was counted
            ∙ ap (λ (place : Option ℕ). capped (x + elim place as (λ _. ℕ) [
              | None ↦ 0
              | Some r ↦ needs_of own.value_eq own.message_eq (job_of_meaning own first) a.core.graph a.core.limits.partitions kept (has_lost a.core p) p r
            ])) (sym from.at));
        saved = λ is kept first_right was all q r within at.
            all q r within (ap (λ (s : State). slice_index_or s.saved q None) (sym happens.state_is) ∙ at);
      }) runs

  -- ---- several

  -- what makes a step right of one core makes it so of another at which the partition has the same place
  pub step_right_still : (kept : Option Rows) (a b : Progress P C A V M) (p : ℕ) (done : Done V M) → IsSameRun a b
      → place_at p b.state ≡ place_at p a.state → has_lost b p ≡ has_lost a p → IsStepRight own kept a p done → IsStepRight own kept b p done
  step_right_still kept a b p done same place lost is =
      let job : job_of_meaning own a ≡ job_of_meaning own b = sym (job_stays own same) in
      let keeps : kept_for kept a p ≡ kept_for kept b p = ap (λ (l : Bool). cond l None kept) (sym lost) in
      let graph : a.graph ≡ b.graph = sym same.graph_is in
      let many : a.limits.partitions ≡ b.limits.partitions = ap (λ (l : Limits). l.partitions) (sym same.limits_are) in
      record {
        step_of = λ r at.
            subst (λ (n : ℕ). IsStepFrom (job_of_meaning own b) (kept_for kept b p) b.graph n p r done.part done.sent) many
            (subst (λ (g : Rows). IsStepFrom (job_of_meaning own b) (kept_for kept b p) g a.limits.partitions p r done.part done.sent) graph
            (subst₂ (λ (j : Job V M) (k : Option Rows). IsStepFrom j k a.graph a.limits.partitions p r done.part done.sent) job keeps
            (is.step_of r (sym place ∙ at))));
        counted = λ r at.
            is.counted r (sym place ∙ at)
            ∙ (λ i. capped (needed_in own.value_eq own.message_eq (job i) (keeps i) (graph i) (belongs (many i) p) r));
      }

  -- steps were recorded, and others are still to be: they can be, as they could at first, and the run went on if the steps are
  -- right
  pub record TakesInOn (steps : List (Option (Done V M))) (old now : Coordination P C A V M) (rest : List (Option (Done V M))) : Type 0 where
    pub same : IsSameRun old.core now.core
    pub losses : now.losses ≡ old.losses
    pub remain : (p : ℕ) (done : Done V M) → slice_index_or rest p None ≡ Some done
        → (slice_index_or steps p None ≡ Some done) × ((is_allowed now.core.state (Step p) ≡ true) × (place_at p now.core.state ≡ place_at p old.core.state))
    pub recorded : AreRecorded steps old.core.state now.core.state
    pub trusts : (honest : Bool) → Trusts honest now.core.history → Trusts honest old.core.history
    pub goes : (fated : Fated) (first : Progress P C A V M) (shelf : ShelfState) → IsRunning own fated first shelf old
        → ((kept : Option Rows) → IsRight (job_of_meaning own first) kept first → Trusts shelf.is_honest old.core.history → AreStepsRight own kept old.core steps)
        → IsRunning own fated first shelf now × ((p : ℕ) → has_lost now.core p ≡ has_lost old.core p)

  module _ (steps : List (Option (Done V M))) (old : Coordination P C A V M) where
    pub takes_in_first : AreNext old.core steps → TakesInOn steps old old steps
    takes_in_first next = record {
      same = record { program_is = refl; combiner_is = refl; master_is = refl; graph_is = refl; limits_are = refl; run_is = refl };
      losses = refl;
      remain = λ p done at. (at, ((next p done at).1.0, refl));
      recorded = record { hosts = refl; places = λ p none. refl; none_before = λ s none. none };
      trusts = λ honest t. t;
      goes = λ fated first shelf runs right. (runs, λ p. refl);
    }

    set_none_here : {X : Type 0} (xs : List (Option X)) (p : ℕ) → get_or (set xs p None) p None ≡ None
    set_none_here [] p = refl
    set_none_here (x ∷ xs) zero = refl
    set_none_here (x ∷ xs) (suc p) = set_none_here xs p

    -- what is left without the step of partition p is another's
    others_left : (rest : List (Option (Done V M))) (p q : ℕ) (done : Done V M) → slice_index_or (set rest p None) q None ≡ Some done
        → (q ≢ p) × (slice_index_or rest q None ≡ Some done)
    others_left rest p q done at = elim (cases_eq q p) [
      | inl same ↦ (
          let none : None ≡ Some done = sym (set_none_here rest p) ∙ (ap (λ (u : ℕ). get_or (set rest p None) u None) (sym same) ∙ at) in
          absurd (true≢false (sym (ap is_some none)))
          )
      | inr apart ↦ (apart, sym (get_or-set_other rest p q None None apart) ∙ at)
    ]

    pub takes_in_none : (now : Coordination P C A V M) (rest : List (Option (Done V M))) (p : ℕ) → TakesInOn steps old now rest
        → TakesInOn steps old now (set rest p None)
    takes_in_none now rest p was = record {
      same = was.same;
      losses = was.losses;
      remain = λ q done at. was.remain q done (others_left rest p q done at).1;
      recorded = was.recorded;
      trusts = was.trusts;
      goes = was.goes;
    }

    -- a partition of which a step is left can make it
    pub next_still : (now : Coordination P C A V M) (rest : List (Option (Done V M))) (p : ℕ) (done : Done V M) → AreNext old.core steps
        → TakesInOn steps old now rest → slice_index_or rest p None ≡ Some done
        → (is_allowed now.core.state (Step p) ≡ true) × IsNext now.core.limits.partitions now.core.state p done.part
    next_still now rest p done next was at =
        let remaining = was.remain p done at in
        let is : IsNext old.core.limits.partitions old.core.state p done.part = (next p done remaining.0).1.1 in (
          remaining.1.0,
          record {
            partition_is = is.partition_is;
            partitions_are = is.partitions_are ∙ ap (λ (l : Limits). l.partitions) (sym was.same.limits_are);
            place_is = λ r there. is.place_is r (sym remaining.1.1 ∙ there);
          },
        )

    pub takes_in_more : (now new : Coordination P C A V M) (rest : List (Option (Done V M))) (p : ℕ) (done : Done V M)
        → TakesInOn steps old now rest → slice_index_or rest p None ≡ Some done
        → Happens (Step p) now.core new.core → new.losses ≡ now.losses
        → ((fated : Fated) (first : Progress P C A V M) (shelf : ShelfState) → IsRunning own fated first shelf now
        → ((kept : Option Rows) → IsRight (job_of_meaning own first) kept first → Trusts shelf.is_honest now.core.history → IsStepRight own kept now.core p done)
        → IsRunning own fated first shelf new)
        → TakesInOn steps old new (set rest p None)
    takes_in_more now new rest p done was at happens losses keeps =
        let remaining = was.remain p done at in
        let allowed : is_allowed now.core.state (Step p) ≡ true = remaining.1.0 in
        let state : new.core.state ≡ after now.core.state (Step p) = happens.state_is in
        record {
          same = same_then was.same happens.same;
          losses = losses ∙ was.losses;
          remain = λ q other there.
              let here = others_left rest p q other there in
              let before = was.remain q other here.1 in (
                before.0,
                (
                  ap (λ (s : State). is_allowed s (Step q)) state ∙ allowed_after now.core.state q p before.1.0 here.0,
                  ap (place_at q) state ∙ (place_after_other now.core.state p q here.0 ∙ before.1.1),
                ),
              );
          recorded = record {
            hosts = ap (λ (s : State). s.hosts) state ∙ was.recorded.hosts;
            places = λ q none.
                ap (place_at q) state
                ∙ (place_after_other now.core.state p q
                (λ same. let none_there : None ≡ Some done = sym none ∙ (ap (λ (u : ℕ). slice_index_or steps u None) same ∙ remaining.0) in
                true≢false (sym (ap is_some none_there)))
                ∙ was.recorded.places q none);
            none_before = λ s none. subst (NoneBefore s) (sym state) (none_before_step s p now.core.state allowed (was.recorded.none_before s none));
          };
          trusts = λ honest t. was.trusts honest (trusts_before honest now.core.history (Step p) (subst (Trusts honest) happens.history_is t));
          goes = λ fated first shelf runs right.
              let gone = was.goes fated first shelf runs right in
              let runs_now : IsRunning own fated first shelf now = gone.0 in (
                keeps fated first shelf runs_now (λ kept first_right trusts.
                    step_right_still kept old.core now.core p done was.same remaining.1.1 (gone.1 p)
                    (right kept first_right (was.trusts shelf.is_honest trusts) p done remaining.0)),
                λ q. ap (λ (l : Limits). was_lost q (first_state l.partitions l.workers) new.core.history) happens.same.limits_are
                    ∙ (ap (was_lost q (first_state now.core.limits.partitions now.core.limits.workers)) happens.history_is
                    ∙ (was_lost-stays q (first_state now.core.limits.partitions now.core.limits.workers) now.core.state now.core.history
                    (Step p) runs_now.leads refl
                    ∙ gone.1 q)),
              );
        }
