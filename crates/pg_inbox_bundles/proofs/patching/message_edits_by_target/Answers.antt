use Rattle.std.proofs.Common.{refl, subst₂, sym, ap₂, ◌++◌, ◌∙◌}
use Rattle.std.proofs.lemmas.List.{map-id}
use Rattle.std.proofs.lemmas.Result.{IfOk-weaker}
use Rattle.pg_sort.specs.ById.{AreById, StandAt}
use Rattle.pg_inbox_messages.specs.Grouping.{AreGroups, groups_of}
use Rattle.pg_inbox_bundles.specs.MessageEdits.{message_edits_of}
use Rattle.pg_inbox_bundles.proofs.Bundling.{groups_taken}
use Rattle.pg_inbox_bundles.proofs.Replacing.{targets-message_edits_of}
use Rattle.pg_inbox_bundles.proofs.patching.message_edits_by_target.Goals as goal

pub message_edits_in_order-requires-after_bounds : goal.message_edits_in_order-requires-after_bounds
message_edits_in_order-requires-after_bounds g c κs within =
    let message_edits = message_edits_of c.args.retracted.now c.args.added.now in
    subst₂ AreById
    (map-id c.as_slice.result.now ∙ c.as_slice.ensures.value ∙ c.in_ok-targets.ensures ∙ ap₂ ◌++◌ refl c.with_targets.ensures
    ∙ sym (targets-message_edits_of c.args.retracted.now c.args.added.now)) (sym c.as_slice-2.ensures.value) c.in_ok-order.ensures

pub returns : goal.returns
returns g c =
    let message_edits = message_edits_of c.args.retracted.now c.args.added.now in
    let order = c.as_slice-2.result.now in
    IfOk-weaker c.message_edits_in_order.result (λ m. StandAt message_edits order m.items) (λ m. AreGroups message_edits (groups_of m.items))
    (λ m zip. groups_taken message_edits order m.items
    (subst₂ AreById
    (map-id c.as_slice.result.now ∙ c.as_slice.ensures.value ∙ c.in_ok-targets.ensures ∙ ap₂ ◌++◌ refl c.with_targets.ensures
    ∙ sym (targets-message_edits_of c.args.retracted.now c.args.added.now)) (sym c.as_slice-2.ensures.value) c.in_ok-order.ensures) zip)
    c.message_edits_in_order.ensures
