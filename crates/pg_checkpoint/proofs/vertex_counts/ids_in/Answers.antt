use Rattle.std.proofs.Common.{◌≡◌, ◌<◌, ◌∙◌, [], length, map, ap, arith, get_or}
use Rattle.std.proofs.lemmas.List.{get_or_default}
use Rattle.std.specs.Map.{keys_of}
use Rattle.pg_checkpoint.proofs.Appending.{item_more}
use Rattle.pg_checkpoint.proofs.vertex_counts.ids_in.Goals as goal

pub loop-superstep-preserved : goal.loop-superstep-preserved
loop-superstep-preserved g c =
    let all = c.args.trace.now.records in
    let s = c.loop-superstep.superstep in
    let within : s < length all = omega (arith, c.loop-superstep-test.true, c.requires) in
    let is : c.as_slice.result.now ≡ get_or all s c.as_slice.result.now =
    c.as_slice.ensures.value ∙ c.in_ok-records.ensures.records ∙ ap (λ k. get_or all k []) c.new.ensures
    ∙ get_or_default all s [] c.as_slice.result.now within in
    item_more all s c.as_slice.result.now within is keys_of (map (λ x. x.id) c.args.trace.now.initial) _ _ c.loop-superstep.invariant
    c.in_ok-add_ids.ensures
