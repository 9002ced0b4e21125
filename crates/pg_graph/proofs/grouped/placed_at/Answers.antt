use Rattle.std.proofs.Common.{◌≡◌, ◌+◌, ◌∷◌, [], ◌++◌, ◌<◌, Some, length, map, slice_get, take, refl, ap, sym, ◌∙◌, subst, arith}
use Rattle.std.proofs.lemmas.List.{length-map, take_more}
use Rattle.std.proofs.lemmas.Option.{slice_get_read, slice_get_within}
use Rattle.pg_graph_rows.specs.RowEdit.{source_of}
use Rattle.pg_graph.specs.RowEdit.{placed}
use Rattle.pg_graph.proofs.Taken.{placed_there}
use Rattle.pg_sort.proofs.Taken.{zip_push}
use Rattle.pg_graph.proofs.grouped.placed_at.Goals as goal

pub loop-place-preserved : goal.loop-place-preserved
loop-place-preserved c =
    let edits = c.args.edits.now in
    let order = c.args.order.now in
    let i = c.loop-place.place-index in
    let at = c.loop-place-item.result in
    let edit = c.index-edits-place.result in
    let there : slice_get (map source_of edits) at.0 ≡ Some at.1 =
    subst (λ e. slice_get (map source_of edits) e.0 ≡ Some e.1) (sym c.loop-place-item.is) (c.requires.order.each i at c.loop-place-test.true) in
    let within : at.0 < length edits = omega (arith, slice_get_within (map source_of edits) at.0 at.1 there, length-map edits source_of) in
    let stands = placed_there 1 edits at.0 edit (slice_get_read edits (length edits) at.0 edit refl within c.index-edits-place.is) in
    let more : take (i + 1) order ≡ take i order ++ at ∷ [] =
    take_more order i at c.loop-place-test.true ∙ ap (λ e. take i order ++ e ∷ []) (sym c.loop-place-item.is) in
    rw (more, c.in_ok-push.ensures.items)
    (zip_push (λ e item. slice_get (placed 1 edits) e.0 ≡ Some item) (take i order) c.loop-place.made.items at (at.0 + 1, edit) c.loop-place.invariant stands)
