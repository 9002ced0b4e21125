use Rattle.std.proofs.Common.{◌≡◌, ◌∙◌, ℕ, Bool, ap, cond, false, inr, refl, sym, true}
use Rattle.pg_service.specs.Handed.{is_failure}
use Rattle.pregeld.specs.SessionState.{with_session_state}
use Rattle.pregeld.specs.declared.reply.Reply.TheVariants.{RunRefused}
use Rattle.pregeld.proofs.carrying.refresh.Goals as goal

-- no failure is counted, so there was none
none_failed : (b : Bool) → ◌≡◌ {A = ℕ} 0 (cond b 1 0) → b ≡ false
none_failed true counted = absurd cc
none_failed false counted = refl

pub returns : goal.returns
returns g c =
    inr (
      c.in-Err.fault,
      (ap is_failure (sym c.in-Err.is) ∙ none_failed (is_failure c.refresh.result) c.refresh.ensures.counted.failures, c.in-Err.ensures.refused),
      ap RunRefused c.number.ensures,
      ap (λ s. with_session_state s c.args.session_state.now) c.in-Err.ensures.err,
    )
