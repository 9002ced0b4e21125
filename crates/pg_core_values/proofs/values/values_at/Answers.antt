use Rattle.std.proofs.Common.{ap, sym, ◌∙◌, subst, flat_map}
use Rattle.pg_core_values.specs.Values.{ids_of_part, state_by, traces_of, valued}
use Rattle.pg_core_values.proofs.ReadValues.{same_values, valued_rise, values_are}
use Rattle.pg_map.specs.Entries.{HasRisingIds}
use Rattle.pg_model.specs.Superstep.{has_id}
use Rattle.pg_core_values.proofs.values.values_at.Goals as goal

pub returns : goal.returns
returns g c job rows missing shares =
    let n = c.args.partitioner in
    let s = c.args.superstep in
    let parts = c.args.parts.now in
    let ids = c.rising-ids.result.items in
    c.in_ok-values.ensures
    ∙ (c.in_ok-held.ensures
    ∙ (ap (flat_map (λ id. valued id (state_by n s (traces_of parts) id))) c.as_slice.ensures.value
    ∙ (same_values n s parts ids ∙ values_are job rows n s parts shares ids c.rising-ids.ensures.rise
    (λ id. c.rising-ids.ensures.same id ∙
    (ap (λ l. has_id l id) c.in_ok-all_ids.ensures ∙ ap (λ m. has_id (flat_map (ids_of_part m s) parts) id) (sym missing))))))

pub of-requires-clause-rise : goal.of-requires-clause-rise
of-requires-clause-rise g c κs within =
    let n = c.args.partitioner in
    let s = c.args.superstep in
    let states = state_by n s (traces_of c.args.parts.now) in
    subst HasRisingIds
    (sym (c.in_ok-held.ensures ∙ ap (flat_map (λ id. valued id (states id))) c.as_slice.ensures.value))
    (valued_rise states c.rising-ids.result.items c.rising-ids.ensures.rise)
