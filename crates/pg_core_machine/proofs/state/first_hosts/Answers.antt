use Rattle.std.proofs.Common.{◌≡◌, ℕ, ◌+◌, ◌%◌, List, ◌++◌, ◌∷◌, [], map, ap, sym, ◌∙◌, arith}
use Rattle.std.specs.List.{range_with_len}
use Rattle.std.proofs.lemmas.List.FromFn.{map-range_with_len_more}
use Rattle.pg_core_machine.proofs.state.first_hosts.Goals as goal

one_more : (workers p x : ℕ) (before after : List ℕ) → before ≡ map (λ p. p % workers) (range_with_len 0 p) → after ≡ before ++ x ∷ []
    → x ≡ p % workers → after ≡ map (λ p. p % workers) (range_with_len 0 (p + 1))
one_more workers p x before after so_far pushed is =
    pushed ∙ ap (λ l. l ++ x ∷ []) so_far
    ∙ ap (λ (n : ℕ). map (λ p. p % workers) (range_with_len 0 p) ++ n ∷ []) is
    ∙ sym (map-range_with_len_more (λ p. p % workers) 0 p p (omega arith))

pub loop-partition-preserved : goal.loop-partition-preserved
loop-partition-preserved c =
    one_more c.args.workers c.loop-partition.partition _ _ _ c.loop-partition.invariant c.in_ok-push.ensures.items c.new.ensures
