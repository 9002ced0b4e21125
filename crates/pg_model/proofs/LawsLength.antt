-- The length of a run is the least number of supersteps with which it ends.
use Rattle.std.proofs.Common.{◌≡◌, ℕ, zero, suc, ◌+◌, ◌-◌, ◌<◌, ◌≤◌, Bool, true, false, cond, ◌==◌, Option, None, Some, is_some, refl, sym, subst}
use Rattle.std.proofs.Common.{arith, eq-eqb, true≢false, inl, inr, eq-or-lt_of_le}
use Rattle.std.specs.Option.{unwrap_or}
use Rattle.std.proofs.lemmas.Bool.{cond_both, cases_lt, cases_order, both_ways}
use Rattle.pg_graph.specs.Rows.{Rows}
use Rattle.pg_model.specs.Job.{Job}
use Rattle.pg_model.specs.Superstep.{is_all_idle}
use Rattle.pg_model.specs.Run.{configuration, visible_at, ending_after, length_from, run_length, answer}
use Rattle.pg_model.specs.declared.run.Ending.{Ending}
use Rattle.pg_model.specs.declared.run.Ending.TheVariants.{MasterHalted, Finished, LimitReached}

last_test : {X : Type 0} (a b c : Bool) (x y z : X) → c ≡ true → is_some (cond a (Some x) (cond b (Some y) (cond c (Some z) None))) ≡ true
last_test true b c x y z e = refl
last_test false true c x y z e = refl
last_test false false true x y z e = refl
last_test false false false x y z e = absurd (true≢false (sym e))

-- a value that is there is the one, whatever the default
some_is : {X : Type 0} (o : Option X) (d : X) → is_some o ≡ true → o ≡ Some (unwrap_or o d)
some_is None d e = absurd (true≢false (sym e))
some_is (Some x) d e = refl

module _ {V M : Type 0} (job : Job V M) (rows : Rows) where
  abbrev ends_after : ℕ → Bool
  ends_after s = is_some (ending_after job rows s)

  -- the run ends at its limit at the latest
  pub ends_at_limit : (s : ℕ) → s + 1 ≡ job.limit → is_some (ending_after job rows s) ≡ true
  ends_at_limit s e =
      last_test {X = Ending} (visible_at job rows s).halt (is_all_idle (configuration job rows (s + 1)))
      (s + 1 == job.limit) MasterHalted Finished LimitReached (eq-eqb (s + 1) job.limit e)

  from-le-length_from : (remaining s : ℕ) → s ≤ length_from job rows remaining s
  unfolding length_from
  from-le-length_from zero s = omega arith
  from-le-length_from (suc remaining) s =
      let later : s + 1 ≤ length_from job rows remaining (s + 1) = from-le-length_from remaining (s + 1) in
      cond_both (ends_after s) (s + 1) (length_from job rows remaining (s + 1)) (λ (n : ℕ). s ≤ n) (λ _. omega arith) (λ _. omega arith)

  from-lt-length_from : (remaining s : ℕ) → 0 < remaining → s < length_from job rows remaining s
  unfolding length_from
  from-lt-length_from zero s h = absurd (omega arith)
  from-lt-length_from (suc remaining) s h =
      let later : s + 1 ≤ length_from job rows remaining (s + 1) = from-le-length_from remaining (s + 1) in
      cond_both (ends_after s) (s + 1) (length_from job rows remaining (s + 1)) (λ (n : ℕ). s < n) (λ _. omega arith) (λ _. omega arith)

  length_from-le : (remaining s : ℕ) → length_from job rows remaining s ≤ s + remaining
  unfolding length_from
  length_from-le zero s = omega arith
  length_from-le (suc remaining) s =
      let later : length_from job rows remaining (s + 1) ≤ s + 1 + remaining = length_from-le remaining (s + 1) in
      cond_both (ends_after s) (s + 1) (length_from job rows remaining (s + 1)) (λ (n : ℕ). n ≤ s + suc remaining) (λ _. omega arith) (λ _. omega arith)

  one_less : (s : ℕ) → s + 1 - 1 ≡ s
  one_less s = omega arith

  ends_at : (remaining s : ℕ) → 0 < remaining → s + remaining ≡ job.limit → ends_after (length_from job rows remaining s - 1) ≡ true
  unfolding length_from
  ends_at zero s h e = absurd (omega arith)
  ends_at (suc zero) s h e =
      let here : ends_after (s + 1 - 1) ≡ true = subst (λ (n : ℕ). ends_after n ≡ true) (sym (one_less s)) (ends_at_limit s (omega arith)) in
      cond_both (ends_after s) (s + 1) (s + 1) (λ (n : ℕ). ends_after (n - 1) ≡ true) (λ _. here) (λ _. here)
  ends_at (suc (suc remaining)) s h e =
      let later : ends_after (length_from job rows (suc remaining) (s + 1) - 1) ≡ true = ends_at (suc remaining) (s + 1) (omega arith) (omega arith) in
      cond_both (ends_after s) (s + 1) (length_from job rows (suc remaining) (s + 1)) (λ (n : ℕ). ends_after (n - 1) ≡ true)
      (λ t. subst (λ (n : ℕ). ends_after n ≡ true) (sym (one_less s)) t) (λ _. later)

  goes_on_from : (remaining s t : ℕ) → s ≤ t → t + 1 < length_from job rows remaining s → ends_after t ≡ false
  unfolding length_from
  goes_on_from zero s t h k = absurd (omega arith)
  goes_on_from (suc remaining) s t h k = by (ends_after s) refl k (goes_on_from remaining (s + 1) t)
    where
      by : (b : Bool) → ends_after s ≡ b → t + 1 < cond b (s + 1) (length_from job rows remaining (s + 1))
          → (s + 1 ≤ t → t + 1 < length_from job rows remaining (s + 1) → ends_after t ≡ false) → ends_after t ≡ false
      by true e k' later = absurd (omega arith)
      by false e k' later = elim (eq-or-lt_of_le h) [ inl same ↦ subst (λ (n : ℕ). ends_after n ≡ false) same e | inr less ↦ later (omega arith) k' ]

  -- a run executes superstep 0
  pub run_length_pos : 0 < job.limit → 0 < run_length job rows
  run_length_pos h = from-lt-length_from job.limit 0 h

  -- a run executes no more supersteps than the limit
  pub run_length-le-limit : run_length job rows ≤ job.limit
  run_length-le-limit = omega (arith, length_from-le job.limit 0)

  -- the run ends with its last superstep
  pub ends_with_last : 0 < job.limit → is_some (ending_after job rows (run_length job rows - 1)) ≡ true
  ends_with_last h = ends_at job.limit 0 h (omega arith)

  -- the run ends with no superstep before its last
  pub goes_on_before_last : (s : ℕ) → s + 1 < run_length job rows → is_some (ending_after job rows s) ≡ false
  goes_on_before_last s h = goes_on_from job.limit 0 s (omega arith) h

  -- a run that ends with none of its first n supersteps executes more than n
  pub goes_on_past : 0 < job.limit → (n : ℕ) → ((s : ℕ) → s < n → is_some (ending_after job rows s) ≡ false) → n < run_length job rows
  goes_on_past h n before =
      elim (cases_lt n (run_length job rows)) [
        | inl less ↦ less
        | inr more ↦ absurd (both_ways _ (before (run_length job rows - 1) (omega (arith, run_length_pos h))) (ends_with_last h))
      ]

  -- only the length has both properties: it is the least number of supersteps with which the run ends
  pub run_length_is : (n : ℕ) → 0 < n → n ≤ job.limit → is_some (ending_after job rows (n - 1)) ≡ true
      → ((s : ℕ) → s + 1 < n → is_some (ending_after job rows s) ≡ false) → run_length job rows ≡ n
  run_length_is n above within ends before =
      elim (cases_order (run_length job rows) n) [
        | inl same ↦ same
        | inr (inl less) ↦ absurd (both_ways _
            (before (run_length job rows - 1) (omega (arith, run_length_pos (omega arith)))) (ends_with_last (omega arith)))
        | inr
            (inr more) ↦ absurd (both_ways _ (goes_on_before_last (n - 1) (omega arith)) ends)
      ]

  -- the ending in the answer is the one that the test after the last superstep finds
  pub ending-answer : 0 < job.limit → ending_after job rows (run_length job rows - 1) ≡ Some (answer job rows).ending
  unfolding answer
  ending-answer h = some_is (ending_after job rows (run_length job rows - 1)) LimitReached (ends_with_last h)
