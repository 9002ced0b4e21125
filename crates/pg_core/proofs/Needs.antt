-- How many executions the history of a run tells of that has ended.
use Rattle.std.proofs.Common.{◌≡◌, ℕ, zero, suc, ◌+◌, ◌<◌, Bool, true, false, List, [], ◌∷◌, Option, refl, ap, ap₂, ◌∙◌, arith}
use Rattle.std.specs.List.{range_with_len, sum_by}
use Rattle.std.proofs.lemmas.List.Sums.{sum_by-cons}
use Rattle.pg_core.specs.Driving.{calls_in, losses_of, needs_of}
use Rattle.pg_core.specs.Progress.{IsRight, Progress}
use Rattle.pg_core_machine.specs.Machine.{Reaches, first_state}
use Rattle.pg_core_machine.proofs.LawsCounts.{unlost_counts}
use Rattle.pg_core_machine.proofs.Sums.{sum_more, sum_none, sum_same}
use Rattle.pg_graph.specs.Rows.{Rows}
use Rattle.pg_model.specs.Job.{Job}
use Rattle.pg_model.specs.Needed.{needed_below, needed_count, needed_in}
use Rattle.pg_model.specs.Run.{run_length}
use Rattle.pg_model.specs.Share.{belongs}
use Rattle.pg_model.proofs.LawsShares.{needed_in_shares}

sum_of_sums : (f g : ℕ → ℕ) (xs : List ℕ) → sum_by (λ x. f x + g x) xs ≡ sum_by f xs + sum_by g xs
sum_of_sums f g [] = refl
sum_of_sums f g (x ∷ xs) = omega (arith, sum_by-cons (λ x. f x + g x) x xs, sum_by-cons f x xs, sum_by-cons g x xs, sum_of_sums f g xs)

-- ---- what the partitions need

module _ {V M : Type 0} (value_eq : V → V → Bool) (message_eq : M → M → Bool) (job : Job V M) (rows : Rows) (n : ℕ) (kept : Option Rows) where
  -- how many executions of partition p are needed in superstep s, and in the first ones
  abbrev one : ℕ → ℕ → ℕ
  one p s = needed_in value_eq message_eq job kept rows (belongs n p) s

  abbrev first : ℕ → ℕ → ℕ
  first p s = sum_by (one p) (range_with_len 0 s)

  -- what all partitions need in the first supersteps is what the run needs there
  needed_by_shares : 0 < n → (s : ℕ) → sum_by (λ p. first p s) (range_with_len 0 n) ≡ needed_below value_eq message_eq job kept rows s
  unfolding needed_below
  needed_by_shares some zero = sum_none 0 n
  needed_by_shares some (suc s) =
      let none : 0 + s ≡ s = omega arith in
      sum_same (λ p. first p (suc s)) (λ p. first p s + one p s) 0 n
      (λ p from within. sum_more (one p) 0 s ∙ ap (λ (k : ℕ). first p s + one p k) none)
      ∙ (sum_of_sums (λ p. first p s) (λ p. one p s) (range_with_len 0 n)
      ∙ ap₂ ◌+◌ (needed_by_shares some s) (needed_in_shares job rows n some value_eq message_eq kept s))

-- ---- what the history of a run that has ended tells of

-- where nobody fell, just the executions that the run needs against the kept one, if any
pub unlost_calls : {P C A V M : Type 0} (value_eq : V → V → Bool) (message_eq : M → M → Bool) (job : Job V M) (kept : Option Rows)
    (core : Progress P C A V M) → 0 < core.limits.partitions
    → Reaches (first_state core.limits.partitions core.limits.workers) core.history core.state
    → IsRight job kept core → core.state.ended ≡ true → losses_of core ≡ []
    → calls_in value_eq message_eq job kept core ≡ needed_count value_eq message_eq job kept core.graph
unlost_calls value_eq message_eq job kept core some events right ended none =
    let n : ℕ = core.limits.partitions in
    let needs : Bool → ℕ → ℕ → ℕ = needs_of value_eq message_eq job core.graph n kept in
    unlost_counts needs n core.limits.workers core.history core.state events ended none
    ∙ (ap (λ (s : ℕ). sum_by (λ p. sum_by (needs false p) (range_with_len 0 s)) (range_with_len 0 n)) (right.at_end ended)
    ∙ needed_by_shares value_eq message_eq job core.graph n kept some (run_length job core.graph))
