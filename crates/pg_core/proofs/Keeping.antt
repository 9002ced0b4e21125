-- Against which rows each partition goes on as events happen.
use Rattle.std.proofs.Common.{◌≡◌, ℕ, Bool, true, false, cond, List, [], ◌∷◌, ◌++◌, Option, None, refl, ap, sym, ◌∙◌, subst}
use Rattle.pg_core.specs.Progress.{HoldsAt, IsRightWith, Progress, has_lost, kept_for}
use Rattle.pg_part.specs.PartRun.{IsSentTo}
use Rattle.pg_graph.specs.Rows.{Rows}
use Rattle.pg_inbox.specs.LoggedBundle.{slot_at}
use Rattle.pg_core_machine.specs.Machine.{Reaches, State, after_all, first_state, place_at, takes}
use Rattle.pg_core_machine.specs.declared.event.Event.{Event}
use Rattle.pg_core_machine.proofs.LawsMachine.{was_lost-stays}
use Rattle.pg_model.specs.Job.{Job}

either_same : {X : Type 0} (b : Bool) (x : X) → cond b x x ≡ x
either_same true x = refl
either_same false x = refl

-- no event has led anywhere
pub nowhere_yet : (from to : State) (events : List Event) → Reaches from events to → events ≡ [] → to ≡ from
nowhere_yet from to events reaches none = sym reaches.leads ∙ ap (after_all from) none

module _ {P C A V M : Type 0} where
  -- nothing, where no run is kept
  pub kept_for-none : (core : Progress P C A V M) (p : ℕ) → kept_for None core p ≡ None
  kept_for-none core p = either_same (has_lost core p) None

  -- an event leaves what is kept for a partition that it doesn't take
  pub kept_more : (kept : Option Rows) (core : Progress P C A V M) (event : Event) (p : ℕ)
      → Reaches (first_state core.limits.partitions core.limits.workers) core.history core.state → takes p core.state event ≡ false
      → kept_for kept core p ≡ kept_for kept (record core { history = core.history ++ event ∷ [] }) p
  kept_more kept core event p events stays =
      ap (λ (b : Bool). cond b None kept)
      (sym (was_lost-stays p (first_state core.limits.partitions core.limits.workers) core.state core.history event events stays))

  -- what is right against some rows is so against the same ones
  pub IsRightWith-same : (job : Job V M) (kept : Option Rows) (a b : ℕ → Option Rows) (core : Progress P C A V M) → ((p : ℕ) → a p ≡ b p)
      → IsRightWith job kept a core → IsRightWith job kept b core
  IsRightWith-same job kept a b core same right = record {
    within = right.within;
    parts = λ p part at. subst (λ k. HoldsAt job core.graph k core.limits.partitions p (place_at p core.state) part) (same p) (right.parts p part at);
    logs = record {
      sent =
          λ s p q past within. subst (λ k. IsSentTo job k core.graph core.limits.partitions p q s (slot_at core.logs s p q)) (same p)
          (right.logs.sent s p q past within);
      no_more = right.logs.no_more;
    };
    shown = right.shown;
    run_totals = right.run_totals;
    ending = right.ending;
    at_end = right.at_end;
    warm = right.warm;
  }
