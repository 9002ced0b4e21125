use Rattle.std.proofs.Common.{◌≤◌, ◌<◌, [], ◌∷◌, ◌++◌, ap, refl, subst, ◌∙◌}
use Rattle.std.proofs.lemmas.List.{take_all}
use Rattle.pg_map.proofs.Filling.{joined_after}
use Rattle.pg_inbox.proofs.receiving.copy_envelopes.Goals as goal

pub envelope-envelope-requires-after_bounds : goal.envelope-envelope-requires-after_bounds
envelope-envelope-requires-after_bounds g c κs within = subst (λ n. c.loop-place.place < n) c.len-place-end.ensures c.loop-place-test.true

pub loop-place-preserved : goal.loop-place-preserved
loop-place-preserved g c =
    let before = c.loop-place.envelopes.items in
    let envelope = c.envelope-envelope.result.now in
    joined_after (λ l. l) (λ xs ys. refl) c.args.envelopes.now.items c.args.more.now.envelopes c.loop-place.place
    (subst (λ n. c.loop-place.place < n) c.len-place-end.ensures c.loop-place-test.true) c.envelope-envelope.ensures c.loop-place.invariant
    (c.in_ok-push.ensures.items ∙ ap (λ m. before ++ (envelope.0, m) ∷ []) c.in_ok-copy.ensures)

pub returns : goal.returns
returns g c =
    c.loop-place.invariant
    ∙ ap (λ l. c.args.envelopes.now.items ++ l)
    (take_all c.loop-place.place c.args.more.now.envelopes (subst (λ n. n ≤ c.loop-place.place) c.len-place-end.ensures c.loop-place-test.false))
