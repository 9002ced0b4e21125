use Rattle.std.proofs.Common.{ap, ap₂, sym, ◌∙◌, subst, flat_map}
use Rattle.pg_core_values.specs.Values.{apart_in, new_values, traces_of}
use Rattle.pg_core_values.proofs.Ends.{new_values_rise, patched_warm}
use Rattle.pg_map.specs.Entries.{ChangesRise, with_changes}
use Rattle.pg_model.specs.Superstep.{has_id}
use Rattle.pg_core_values.proofs.patching.values_patched.Goals as goal

pub changed-requires-clause-changes_rise : goal.changed-requires-clause-changes_rise
changed-requires-clause-changes_rise g c κs within =
    let n = c.args.partitioner in
    let s = c.args.superstep in
    let traces = traces_of c.args.parts.now in
    let changes = c.as_slice-2.ensures.value ∙ (c.in_ok-changes.ensures ∙ ap (new_values n s traces) c.as_slice.ensures.value) in
    subst ChangesRise (sym changes) (new_values_rise n s traces c.rising-ids.result.items c.rising-ids.ensures.rise)

pub returns : goal.returns
returns g c job keeps rows ended end =
    let n = c.args.partitioner in
    let s = c.args.superstep in
    let parts = c.args.parts.now in
    let ids = c.rising-ids.result.items in
    let changes = c.as_slice-2.ensures.value ∙ (c.in_ok-changes.ensures ∙ ap (new_values n s (traces_of parts)) c.as_slice.ensures.value) in
    let listed = c.in_ok-changed_ids.ensures ∙ ap (λ k. flat_map (apart_in s k) parts) c.supersteps.ensures in
    c.in_ok-values.ensures
    ∙ (ap₂ with_changes changes c.values.ensures
    ∙ patched_warm job rows n s parts c.args.kept keeps ended end ids c.rising-ids.ensures.rise
    (λ id. c.rising-ids.ensures.same id ∙ ap (λ l. has_id l id) listed))
