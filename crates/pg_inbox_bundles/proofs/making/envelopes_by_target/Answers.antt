use Rattle.std.proofs.Common.{map, subst}
use Rattle.std.specs.List.Sorted.{IsNonDecreasingBy}
use Rattle.std.proofs.lemmas.Result.{IfOk-weaker}
use Rattle.pg_sort.specs.ById.{AreById, StandAt}
use Rattle.pg_inbox_messages.specs.Grouping.{AreGroups, groups_of}
use Rattle.pg_inbox_bundles.specs.Outbox.{as_item}
use Rattle.pg_inbox_bundles.proofs.Bundling.{groups_by_id, rise_by_id}
use Rattle.pg_inbox_bundles.proofs.making.envelopes_by_target.Goals as goal

pub returns-clause-groups : goal.returns-clause-groups
returns-clause-groups g c =
    let sent = c.args.sent.now in
    let order = c.in_ok-order.order.items in
    let by_id : AreById (map (λ s. s.1) sent) order = subst (λ ids. AreById ids order) c.with_targets.ensures c.in_ok-order.ensures in
    IfOk-weaker c.envelopes_in_order.result _ (λ envelopes. AreGroups (map as_item sent) (groups_of envelopes.items))
    (λ envelopes zip. groups_by_id sent order envelopes.items by_id (subst (λ order. StandAt (map as_item sent) order envelopes.items) c.as_slice.ensures.value zip))
    c.envelopes_in_order.ensures.stand

pub returns-clause-rise : goal.returns-clause-rise
returns-clause-rise g c =
    let sent = c.args.sent.now in
    let order = c.in_ok-order.order.items in
    let by_id : AreById (map (λ s. s.1) sent) order = subst (λ ids. AreById ids order) c.with_targets.ensures c.in_ok-order.ensures in
    IfOk-weaker c.envelopes_in_order.result _ (λ envelopes. IsNonDecreasingBy (λ l. l.0) envelopes.items)
    (λ envelopes zip. rise_by_id sent order envelopes.items by_id (subst (λ order. StandAt (map as_item sent) order envelopes.items) c.as_slice.ensures.value zip))
    c.envelopes_in_order.ensures.stand
