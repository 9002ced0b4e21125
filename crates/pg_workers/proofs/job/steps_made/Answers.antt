use Rattle.std.proofs.Common.{◌≡◌, ◌+◌, ℕ, List, [], ◌∷◌, ◌++◌, ap, sym, ◌∙◌, arith}
use Rattle.std.specs.Prelude.{map}
use Rattle.std.specs.List.{range_with_len}
use Rattle.pg_core.specs.Handed.{steps_of, Event}
use Rattle.std.proofs.lemmas.List.FromFn.{map-range_with_len_more}
use Rattle.pg_workers.proofs.job.steps_made.Goals as goal

one_more : (history : List Event) (k x : ℕ) (before after : List ℕ) → before ≡ map (λ p. steps_of p history) (range_with_len 0 k)
    → after ≡ before ++ x ∷ [] → x ≡ steps_of k history → after ≡ map (λ p. steps_of p history) (range_with_len 0 (k + 1))
one_more history k x before after so_far pushed is =
    pushed ∙ ap (λ l. l ++ x ∷ []) so_far
    ∙ ap (λ (n : ℕ). map (λ p. steps_of p history) (range_with_len 0 k) ++ n ∷ []) is
    ∙ sym (map-range_with_len_more (λ p. steps_of p history) 0 k k (omega arith))

pub loop-number-preserved : goal.loop-number-preserved
loop-number-preserved c =
    one_more c.args.history.now c.loop-number.number c.steps_of.result c.loop-number.steps c.push.new.self c.loop-number.invariant c.in_ok-push.ensures.ok
    (c.steps_of.ensures ∙ ap (λ (p : ℕ). steps_of p c.args.history.now) c.new.ensures)
