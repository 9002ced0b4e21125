use Rattle.std.proofs.Common.{ℕ, List, ◌≡◌, ◌++◌, [], ◌∷◌, flat_map, take, ap, ap₂, sym, ◌∙◌, arith}
use Rattle.std.proofs.lemmas.List.{take_all, take_more}
use Rattle.pg_part.proofs.Handed.{flat_map-push}
use Rattle.pg_core_values.specs.Values.{state_by, traces_of, valued}
use Rattle.pg_core_values.proofs.values.values_of_ids.Goals as goal

pub loop-id-preserved : goal.loop-id-preserved
loop-id-preserved g c =
    let n = c.args.partitioner in
    let s = c.args.superstep in
    let traces = traces_of c.args.parts.now in
    let value : ℕ → List (ℕ × g.row.V.Denot) = λ id. valued id (state_by n s traces id) in
    let ids = c.args.ids.now in
    let i = c.loop-id.id-index in
    let x = c.id-item.result in
    let more = take_more ids i x c.loop-id-test.true ∙ ap (λ y. take i ids ++ y ∷ []) (sym c.id-item.is) in
    record {
      so_far = c.in_ok-add_value.ensures.added
          ∙ (ap₂ (λ l t. l ++ valued x (state_by n s t x)) c.loop-id.invariant.so_far c.loop-id.invariant.same
          ∙ sym (ap (flat_map value) more ∙ flat_map-push value (take i ids) x));
      same = c.in_ok-add_value.ensures.same ∙ c.loop-id.invariant.same;
    }

pub returns : goal.returns
returns g c =
    let ids = c.args.ids.now in
    let traces = traces_of c.args.parts.now in
    let all : take c.loop-id.id-index ids ≡ ids = take_all c.loop-id.id-index ids (omega (arith, c.loop-id-test.false)) in
    c.loop-id.invariant.so_far ∙ ap (flat_map (λ id. valued id (state_by c.args.partitioner c.args.superstep traces id))) all
