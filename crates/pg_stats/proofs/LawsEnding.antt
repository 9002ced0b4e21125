-- The superstep with which a run ends is its last.
use Rattle.std.proofs.Common.{◌≡◌, ℕ, ◌+◌, ◌-◌, ◌<◌, true, false, ◌==◌, is_some, ap, sym, ◌∙◌, arith, inl, inr}
use Rattle.std.proofs.lemmas.Bool.{both_ways, cases_order, eq-eqb, eqb-true, ne_eqb}
use Rattle.pg_graph.specs.Rows.{Rows}
use Rattle.pg_model.specs.Job.{Job}
use Rattle.pg_model.specs.Run.{ending_after, run_length}
use Rattle.pg_model.proofs.LawsLength.{ends_with_last, goes_on_before_last, run_length-le-limit}

module _ {V M : Type 0} (job : Job V M) (rows : Rows) where
  -- of the supersteps of a run the last is the one with which it ends
  pub ends_exactly : (s : ℕ) → s < run_length job rows → is_some (ending_after job rows s) ≡ (s + 1 == run_length job rows)
  ends_exactly s within =
      elim (cases_order (s + 1) (run_length job rows)) [
        | inl last ↦ (
            let here : run_length job rows - 1 ≡ s = omega (arith, last) in
            ap (λ (k : ℕ). is_some (ending_after job rows k)) (sym here)
            ∙ (ends_with_last job rows (omega (arith, within, run_length-le-limit job rows)) ∙ sym (eq-eqb (s + 1) (run_length job rows) last))
            )
        | inr (inl less) ↦ goes_on_before_last job rows s less ∙ sym (ne_eqb (s + 1) (run_length job rows) (λ e. omega (arith, e, less)))
        | inr (inr more) ↦ absurd (omega (arith, within, more))
      ]

  -- so a run that ends with superstep s has s + 1 of them
  pub ends_last : (s : ℕ) → s < run_length job rows → is_some (ending_after job rows s) ≡ true → run_length job rows ≡ s + 1
  ends_last s within ends = sym (eqb-true (s + 1) (run_length job rows) (sym (ends_exactly s within) ∙ ends))

  -- and one that doesn't has another
  pub goes_on : (s : ℕ) → s < run_length job rows → is_some (ending_after job rows s) ≡ false → s + 1 < run_length job rows
  goes_on s within on =
      elim (cases_order (s + 1) (run_length job rows)) [
        | inl last ↦ absurd (both_ways _ on (ends_exactly s within ∙ eq-eqb (s + 1) (run_length job rows) last))
        | inr (inl less) ↦ less
        | inr (inr more) ↦ absurd (omega (arith, within, more))
      ]
