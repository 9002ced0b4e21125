use Rattle.std.proofs.Common.{◌≡◌, ◌<◌, ◌∙◌, [], length, map, ap, arith, get_or}
use Rattle.std.proofs.lemmas.List.{get_or_default}
use Rattle.std.specs.Map.{keys_of}
use Rattle.pg_checkpoint.specs.Bytes.{superstep_coding}
use Rattle.pg_checkpoint.specs.Records.{IsCodable}
use Rattle.pg_checkpoint.proofs.Appending.{all_more, item_more}
use Rattle.pg_program.specs.Plain.{are_listed}
use Rattle.pg_checkpoint.proofs.writing.put_supersteps.Goals as goal

pub loop-superstep-preserved : goal.loop-superstep-preserved
loop-superstep-preserved g c =
    let all = c.args.trace.now.records in
    let s = c.loop-superstep.superstep in
    let within : s < length all = omega (arith, c.loop-superstep-test.true, c.requires) in
    let is : c.as_slice.result.now ≡ get_or all s c.as_slice.result.now =
    c.as_slice.ensures.value ∙ c.in_ok-records.ensures.records ∙ ap (λ k. get_or all k []) c.new.ensures
    ∙ get_or_default all s [] c.as_slice.result.now within in (
      item_more all s c.as_slice.result.now within is (superstep_coding g.V.Coded.coding g.M.Coded.coding) c.args.bytes.now.items _ _
          c.loop-superstep.invariant.0 c.in_ok-put_superstep.ensures.bytes,
      all_more all s c.as_slice.result.now within is (are_listed (IsCodable g.V.Plain.is_value g.M.Plain.is_value))
          c.loop-superstep.invariant.1 c.in_ok-put_superstep.ensures.codable,
      item_more all s c.as_slice.result.now within is keys_of (map (λ x. x.id) c.args.trace.now.initial) _ _
          c.loop-superstep.invariant.2 c.in_ok-put_superstep.ensures.ids,
    )
