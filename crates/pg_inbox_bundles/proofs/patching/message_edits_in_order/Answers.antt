use Rattle.std.proofs.Common.{◌≡◌, ◌+◌, ◌∷◌, [], ◌++◌, Some, map, slice_get, take, ap, sym, ◌∙◌, subst, arith}
use Rattle.std.proofs.lemmas.List.{length-map, take_all, take_more}
use Rattle.std.proofs.lemmas.Option.{slice_get_within}
use Rattle.pg_sort.specs.ById.{StandAt}
use Rattle.pg_sort.proofs.Taken.{zip_push}
use Rattle.pg_inbox_bundles.specs.MessageEdits.{message_edits_of}
use Rattle.pg_inbox_bundles.proofs.Replacing.{length-message_edits_of}
use Rattle.pg_inbox_bundles.proofs.patching.message_edits_in_order.Goals as goal

pub message_edit_at-requires-after_bounds : goal.message_edit_at-requires-after_bounds
message_edit_at-requires-after_bounds g c κs within =
    let message_edits = message_edits_of c.args.retracted.now c.args.added.now in
    let at = c.loop-place-item.result in
    let there : slice_get (map (λ m. m.0) message_edits) at.0 ≡ Some at.1 =
    subst (λ e. slice_get (map (λ m. m.0) message_edits) e.0 ≡ Some e.1) (sym c.loop-place-item.is) (c.requires.each c.loop-place.place-index at c.loop-place-test.true) in
    omega (arith, slice_get_within (map (λ m. m.0) message_edits) at.0 at.1 there, length-map message_edits (λ m. m.0), length-message_edits_of c.args.retracted.now c.args.added.now)

pub loop-place-preserved : goal.loop-place-preserved
loop-place-preserved g c =
    let message_edits = message_edits_of c.args.retracted.now c.args.added.now in
    let order = c.args.order.now in
    let i = c.loop-place.place-index in
    let at = c.loop-place-item.result in
    let more : take (i + 1) order ≡ take i order ++ at ∷ [] =
    take_more order i at c.loop-place-test.true ∙ ap (λ e. take i order ++ e ∷ []) (sym c.loop-place-item.is) in
    rw (more, c.in_ok-push.ensures.items)
    (zip_push (λ e message_edit. slice_get message_edits e.0 ≡ Some message_edit) (take i order) c.loop-place.message_edits.items at c.in_ok-message_edit_at.field-0
    c.loop-place.invariant c.in_ok-message_edit_at.ensures)

pub returns : goal.returns
returns g c =
    subst (λ order. StandAt (message_edits_of c.args.retracted.now c.args.added.now) order c.loop-place.message_edits.items)
    (take_all c.loop-place.place-index c.args.order.now c.loop-place-test.false) c.loop-place.invariant
