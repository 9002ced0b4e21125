use Rattle.std.proofs.Common.{◌≡◌, ◌++◌, [], ◌∷◌, option_map, take, ap, ap₂, sym, ◌∙◌, arith}
use Rattle.std.proofs.lemmas.List.{map-append, take_all, take_more}
use Rattle.pg_core_values.specs.Values.{new_values, state_by, traces_of}
use Rattle.pg_core_values.proofs.patching.changes_at.Goals as goal

pub loop-id-preserved : goal.loop-id-preserved
loop-id-preserved g c =
    let n = c.args.partitioner in
    let s = c.args.superstep in
    let traces = traces_of c.args.parts.now in
    let ids = c.args.ids.now in
    let i = c.loop-id.id-index in
    let x = c.id-item.result in
    let more = take_more ids i x c.loop-id-test.true ∙ ap (λ y. take i ids ++ y ∷ []) (sym c.id-item.is) in
    let value = c.in_ok-value_of.ensures
    ∙ ap (option_map (λ v. v.value)) (c.state_by-state.ensures.value ∙ ap (λ t. state_by n s t x) c.loop-id.invariant.same) in
    record {
      so_far = c.in_ok-push.ensures.items
          ∙ (ap₂ (λ l v. l ++ (x, v) ∷ []) c.loop-id.invariant.so_far value
          ∙ sym (ap (new_values n s traces) more ∙ map-append (λ id. (id, option_map (λ v. v.value) (state_by n s traces id))) (take i ids) (x ∷ [])));
      same = c.state_by-state.ensures.same ∙ c.loop-id.invariant.same;
    }

pub returns : goal.returns
returns g c =
    let ids = c.args.ids.now in
    let all : take c.loop-id.id-index ids ≡ ids = take_all c.loop-id.id-index ids (omega (arith, c.loop-id-test.false)) in
    c.loop-id.invariant.so_far ∙ ap (new_values c.args.partitioner c.args.superstep (traces_of c.args.parts.now)) all
