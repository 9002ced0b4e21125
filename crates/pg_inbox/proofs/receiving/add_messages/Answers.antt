use Rattle.std.proofs.Common.{◌≤◌, ◌<◌, [], ◌∷◌, ◌++◌, ap, subst, ◌∙◌}
use Rattle.std.proofs.lemmas.List.{take_all}
use Rattle.pg_map.proofs.Filling.{mapped_after}
use Rattle.pg_inbox_messages.specs.Contents.{messages}
use Rattle.pg_inbox.proofs.receiving.add_messages.Goals as goal

pub envelope-requires-after_bounds : goal.envelope-requires-after_bounds
envelope-requires-after_bounds g c κs within = subst (λ n. c.loop-place.place < n) c.len-place-end.ensures c.loop-place-test.true

pub loop-place-preserved : goal.loop-place-preserved
loop-place-preserved g c =
    let before = c.loop-place.into.items in
    mapped_after (λ l. l.1) c.args.into.now.items c.args.message_list.now.envelopes c.loop-place.place
    (subst (λ n. c.loop-place.place < n) c.len-place-end.ensures c.loop-place-test.true) c.envelope.ensures c.loop-place.invariant
    (c.in_ok-push.ensures.items ∙ ap (λ m. before ++ m ∷ []) c.in_ok-copy.ensures)

pub returns : goal.returns
returns g c =
    c.loop-place.invariant
    ∙ ap (λ l. c.args.into.now.items ++ messages l)
    (take_all c.loop-place.place c.args.message_list.now.envelopes (subst (λ n. n ≤ c.loop-place.place) c.len-place-end.ensures c.loop-place-test.false))
