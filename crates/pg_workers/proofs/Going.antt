-- A run on workers goes on by one event more, with what is counted of it.
use Rattle.std.proofs.Common.{◌≡◌, ℕ, suc, cond, ◌+◌, Bool, true, false, List, [], ◌∷◌, ◌++◌, map, refl}
use Rattle.std.proofs.Common.{ap, ap₂, sym, ◌∙◌, subst, subst₂, Option, None, Result, Ok, Err, arith}
use Rattle.std.specs.Prelude.{IfErr, IfOk, OnOk, slice_index_or}
use Rattle.std.proofs.lemmas.Bool.{and_parts}
use Rattle.std.proofs.lemmas.List.{append-nil}
use Rattle.std.proofs.lemmas.List.Folds.{list_all-append}
use Rattle.pg_checkpoint.specs.Shelf.{IsCounted, ShelfState}
use Rattle.pg_core.specs.Driving.{IsSameRun, calls_in, losses_of, needs_of}
use Rattle.pg_core.specs.Progress.{IsRight, Progress, has_lost}
use Rattle.pg_core.proofs.Onward.{job_same}
use Rattle.pg_graph.specs.Rows.{Rows}
use Rattle.pg_core.specs.Handed.{Limits, counts_by, counts_in, is_anew, losses_in, lost_by}
use Rattle.pg_core.specs.Handed.{Reaches, State, after, first_state, is_allowed, Event}
use Rattle.pg_core.proofs.Handed.{counts_in-more, losses_in-more, Reaches-push}
use Rattle.pg_model.specs.Job.{Job}
use Rattle.pg_model.specs.Superstep.{capped}
use Rattle.pg_workers.specs.Losses.{AreFated, Fated, Trusts, as_reported}
use Rattle.pg_workers.specs.Meaning.{Meaning, job_of_meaning}
use Rattle.pg_workers.specs.Running.{AreSaved, Coordination, Happens, IsRunning}

-- ---- trust

-- what may be trusted with one event more might be so before it
pub trusts_before : (honest : Bool) (history : List Event) (event : Event) → Trusts honest (history ++ event ∷ []) → Trusts honest history
trusts_before true history event trusts = refl
trusts_before false history event trusts = (and_parts _ _ (sym (list_all-append is_anew history (event ∷ [])) ∙ trusts)).0

-- an honest shelf may always be
pub honest_trusts : (honest : Bool) (history : List Event) → honest ≡ true → Trusts honest history
honest_trusts true history is = refl
honest_trusts false history is = absurd cc

-- ---- the same run

pub same_then : {P C A V M : Type 0} {a b c : Progress P C A V M} → IsSameRun a b → IsSameRun b c → IsSameRun a c
same_then first second = record {
  program_is = second.program_is ∙ first.program_is;
  combiner_is = second.combiner_is ∙ first.combiner_is;
  master_is = second.master_is ∙ first.master_is;
  graph_is = second.graph_is ∙ first.graph_is;
  limits_are = second.limits_are ∙ first.limits_are;
  run_is = second.run_is ∙ first.run_is;
}

module _ {P C A V M : Type 0} (own : Meaning P C A V M) where
  pub job_stays : {a b : Progress P C A V M} → IsSameRun a b → job_of_meaning own b ≡ job_of_meaning own a
  job_stays {a} {b} same = job_same own.program own.combining own.master a b same

  -- what a history tells of calls, in the words of the run's numbers
  abbrev calls_by : Job V M → Option Rows → Rows → Limits → List Event → ℕ
  calls_by job kept rows limits history =
      counts_in (needs_of own.value_eq own.message_eq job rows limits.partitions kept) (λ p. false) (first_state limits.partitions limits.workers) history

  module _ (event : Event) (before now : Progress P C A V M) (happens : Happens event before now)
      (leads : Reaches (first_state before.limits.partitions before.limits.workers) before.history before.state) where
    leads_on : is_allowed before.state event ≡ true → Reaches (first_state now.limits.partitions now.limits.workers) now.history now.state
    leads_on allowed =
        let more = Reaches-push (first_state before.limits.partitions before.limits.workers) before.state before.history event leads allowed in
        subst (λ (l : Limits). Reaches (first_state l.partitions l.workers) now.history now.state) (sym happens.same.limits_are)
        (subst₂ (λ (h : List Event) (s : State). Reaches (first_state before.limits.partitions before.limits.workers) h s) (sym happens.history_is)
        (sym happens.state_is) more)

    losses_on : losses_of now ≡ losses_of before ++ lost_by before.state event
    losses_on =
        ap₂ (λ (l : Limits) (h : List Event). losses_in (first_state l.partitions l.workers) h) happens.same.limits_are happens.history_is
        ∙ losses_in-more (first_state before.limits.partitions before.limits.workers) before.state before.history event leads

    calls_on : (job : Job V M) (kept : Option Rows) → calls_in own.value_eq own.message_eq job kept now
        ≡ calls_in own.value_eq own.message_eq job kept before
        + counts_by (needs_of own.value_eq own.message_eq job before.graph before.limits.partitions kept) (has_lost before) before.state event
    calls_on job kept =
        (λ i. calls_by job kept (happens.same.graph_is i) (happens.same.limits_are i) (happens.history_is i))
        ∙ counts_in-more (needs_of own.value_eq own.message_eq job before.graph before.limits.partitions kept)
        (first_state before.limits.partitions before.limits.workers) before.state before.history event leads

  -- one event more: what it leaves right, the loss that it is, if any, the calls that it counts, and what it makes of what
  -- was saved
  pub record Adds (fated : Fated) (first : Progress P C A V M) (event : Event) (shelf shelf_after : ShelfState)
      (before now : Coordination P C A V M) : Type 0 where
    pub allowed : is_allowed before.core.state event ≡ true
    pub happens : Happens event before.core now.core
    pub honest : shelf_after.is_honest ≡ shelf.is_honest
    pub right : (kept : Option Rows) → IsRight (job_of_meaning own first) kept first → Trusts shelf.is_honest (before.core.history ++ event ∷ [])
        → IsRight (job_of_meaning own before.core) kept before.core → IsRight (job_of_meaning own before.core) kept now.core
    pub losses_are : map as_reported now.losses ≡ map as_reported before.losses ++ lost_by before.core.state event
    pub fated_are : AreFated fated 0 before.losses → AreFated fated 0 now.losses
    pub calls_are : (kept : Option Rows) (x : ℕ) → IsRight (job_of_meaning own first) kept first → Trusts shelf.is_honest (before.core.history ++ event ∷ [])
        → before.calls ≡ capped x → now.calls ≡ capped (x + counts_by (needs_of own.value_eq own.message_eq (job_of_meaning own first)
        before.core.graph before.core.limits.partitions kept) (has_lost before.core) before.core.state event)
    pub saved : shelf.is_honest ≡ true → (kept : Option Rows) → IsRight (job_of_meaning own first) kept first → IsRight (job_of_meaning own first) kept before.core
        → AreSaved own (job_of_meaning own first) first.graph first.limits.partitions first.run before.core.state shelf
        → AreSaved own (job_of_meaning own first) first.graph first.limits.partitions first.run now.core.state shelf_after

  pub running_after : (fated : Fated) (first : Progress P C A V M) (event : Event) (shelf shelf_after : ShelfState)
      (before now : Coordination P C A V M) → Adds fated first event shelf shelf_after before now → IsRunning own fated first shelf before
      → IsRunning own fated first shelf_after now
  running_after fated first event shelf shelf_after before now adds runs =
      let job : Job V M = job_of_meaning own first in
      let there : job_of_meaning own before.core ≡ job = job_stays runs.same in
      let trusts : Trusts shelf_after.is_honest now.core.history → Trusts shelf.is_honest (before.core.history ++ event ∷ []) =
      λ t. subst₂ (λ (b : Bool) (h : List Event). Trusts b h) adds.honest adds.happens.history_is t in
      let sooner : Trusts shelf_after.is_honest now.core.history → Trusts shelf.is_honest before.core.history =
      λ t. trusts_before shelf.is_honest before.core.history event (trusts t) in
      record {
        same = same_then runs.same adds.happens.same;
        leads = leads_on event before.core now.core adds.happens runs.leads adds.allowed;
        losses_are = adds.losses_are
            ∙ (ap (λ l. l ++ lost_by before.core.state event) runs.losses_are
            ∙ sym (losses_on event before.core now.core adds.happens runs.leads));
        fated_are = adds.fated_are runs.fated_are;
        right = λ kept right t.
            subst (λ (j : Job V M). IsRight j kept before.core → IsRight j kept now.core) there (adds.right kept right (trusts t))
            (runs.right kept right (sooner t));
        calls_are = λ kept right t.
            adds.calls_are kept (calls_in own.value_eq own.message_eq job kept before.core) right (trusts t) (runs.calls_are kept right (sooner t))
            ∙ ap (λ (k : ℕ). capped k) (sym (calls_on event before.core now.core adds.happens runs.leads job kept));
        saved = λ is kept right.
            let was : shelf.is_honest ≡ true = sym adds.honest ∙ is in
            adds.saved was kept right (runs.right kept right (honest_trusts shelf.is_honest before.core.history was)) (runs.saved was kept right);
      }

  -- an event by which nobody falls and nothing is counted or saved
  pub running_quiet : (fated : Fated) (first : Progress P C A V M) (event : Event) (shelf : ShelfState) (before now : Coordination P C A V M)
      → is_allowed before.core.state event ≡ true → Happens event before.core now.core
      → ((kept : Option Rows) → IsRight (job_of_meaning own first) kept first → Trusts shelf.is_honest (before.core.history ++ event ∷ [])
      → IsRight (job_of_meaning own before.core) kept before.core → IsRight (job_of_meaning own before.core) kept now.core)
      → now.losses ≡ before.losses → now.calls ≡ before.calls → lost_by before.core.state event ≡ []
      → ((needs : Bool → ℕ → ℕ → ℕ) (lost : ℕ → Bool) → counts_by needs lost before.core.state event ≡ 0)
      → (after before.core.state event).saved ≡ before.core.state.saved
      → IsRunning own fated first shelf before → IsRunning own fated first shelf now
  running_quiet fated first event shelf before now allowed happens right losses calls nobody nothing unsaved =
      running_after fated first event shelf shelf before now (record {
        allowed = allowed;
        happens = happens;
        honest = refl;
        right = right;
        losses_are = ap (map as_reported) losses
            ∙ (sym (append-nil (map as_reported before.losses)) ∙ ap (λ l. map as_reported before.losses ++ l) (sym nobody));
        fated_are = λ are. subst (AreFated fated 0) (sym losses) are;
        calls_are = λ kept x is t was.
            let none = nothing (needs_of own.value_eq own.message_eq (job_of_meaning own first) before.core.graph before.core.limits.partitions kept)
            (has_lost before.core) in
            let same : x ≡ x + counts_by (needs_of own.value_eq own.message_eq (job_of_meaning own first) before.core.graph before.core.limits.partitions kept)
            (has_lost before.core) before.core.state event = omega (arith, none) in
            calls ∙ (was ∙ ap (λ (k : ℕ). capped k) same);
        saved = λ is kept first_right was all p r within at.
            all p r within (ap (λ (l : List (Option ℕ)). slice_index_or l p None) (sym unsaved ∙ sym (ap (λ (s : State). s.saved) happens.state_is)) ∙ at);
      })

-- ---- the shelf

-- failures that one call after another counts
pub counted_then : (a b c : ShelfState) (failed : Bool) → IsCounted a false b → IsCounted b failed c → IsCounted a failed c
counted_then a b c failed first second = record {
  honest = second.honest ∙ first.honest;
  failures = second.failures ∙ ap (λ (n : ℕ). cond failed (suc n) n) first.failures;
}

pub not_counted : (a : ShelfState) → IsCounted a false a
not_counted a = record { honest = refl; failures = refl }
