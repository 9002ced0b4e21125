use Rattle.std.proofs.Common.{◌<◌, length, get_or, ap, sym, ◌∙◌, arith}
use Rattle.std.proofs.lemmas.List.{take_more_same}
use Rattle.pg_service.proofs.answers.are_same_values.Goals as goal

pub loop-place-preserved : goal.loop-place-preserved
loop-place-preserved g c =
    let own = c.args.own.now in
    let others = c.args.others.now in
    let i = c.loop-place.place in
    let same = c.is_same_entry.ensures.0 c.if-not-is_same_entry.false in
    let within : i < length others = omega arith in
    take_more_same own others i c.index-own-place.result c.loop-place-test.true within c.loop-place.invariant
    (sym c.index-own-place.is ∙ (same ∙ (c.index-others-place.is ∙ ap (λ d. get_or others i d) (sym same))))
