use Rattle.std.proofs.Common.{◌≡◌, ℕ, ◌+◌, ap, sym, ◌∙◌, [], ◌∷◌, ◌++◌, arith}
use Rattle.std.specs.List.{range_with_len}
use Rattle.pg_scratch.proofs.Runs.{range-push}
use Rattle.pg_scratch.proofs.runner.all_places.Goals as goal

pub loop-place-preserved : goal.loop-place-preserved
loop-place-preserved c =
    let e : 0 + c.loop-place.place ≡ c.loop-place.place = omega arith in
    c.in_ok-push.ensures.items ∙ ap (λ l. l ++ c.loop-place.place ∷ []) c.loop-place.invariant
    ∙ ap (λ (n : ℕ). range_with_len 0 c.loop-place.place ++ n ∷ []) (sym e) ∙ sym (range-push 0 c.loop-place.place)
