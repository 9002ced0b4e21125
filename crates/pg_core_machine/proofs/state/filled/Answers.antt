use Rattle.std.proofs.Common.{ℕ, ◌++◌, ◌∷◌, [], ap, sym, ◌∙◌, arith}
use Rattle.std.proofs.lemmas.List.FromFn.{map-range_with_len_more}
use Rattle.pg_core_machine.proofs.state.filled.Goals as goal

pub loop-place-preserved : goal.loop-place-preserved
loop-place-preserved g c =
    c.in_ok-push.ensures.items ∙ ap (λ l. l ++ c.args.value ∷ []) c.loop-place.invariant
    ∙ sym (map-range_with_len_more (λ (p : ℕ). c.args.value) 0 c.loop-place._place c.loop-place._place (omega arith))
