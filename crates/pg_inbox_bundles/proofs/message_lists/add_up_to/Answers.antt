use Rattle.std.proofs.Common.{◌++◌, [], ap, ◌∙◌, leb, ltb, of_calls, rules, subst, sym}
use Rattle.std.specs.List.Sorted.{IsNonDecreasingBy}
use Rattle.std.proofs.lemmas.Fn.{always_returns_same}
use Rattle.std.proofs.lemmas.List.Sorted.{IsNonDecreasingBy-drop, IsPartitionedBy-leb, IsPartitionedBy-ltb}
use Rattle.pg_map.specs.Entries.{with_change}
use Rattle.pg_inbox_bundles.proofs.Sent.{message_lists_up_to}
use Rattle.pg_inbox_bundles.proofs.message_lists.add_up_to.Goals as goal

pub returns-clause-rise : goal.returns-clause-rise
returns-clause-rise g c =
    let envelopes = c.args.envelopes.now in
    let from = c.split_at.result.1.now in
    subst (IsNonDecreasingBy (λ l. l.0)) (sym c.split_at-2.ensures.back)
    (IsNonDecreasingBy-drop (λ l. l.0) c.partition_point-until.result from
    (subst (IsNonDecreasingBy (λ l. l.0)) (sym c.split_at.ensures.back) (IsNonDecreasingBy-drop (λ l. l.0) c.partition_point-before.result envelopes c.requires.rise)))

pub returns-clause-message_lists : goal.returns-clause-message_lists
returns-clause-message_lists g c =
    let envelopes = c.args.envelopes.now in
    let from = c.split_at.result.1.now in
    let rise = subst (IsNonDecreasingBy (λ l. l.0)) (sym c.split_at.ensures.back) (IsNonDecreasingBy-drop (λ l. l.0) c.partition_point-before.result envelopes c.requires.rise) in
    message_lists_up_to c.args.id c.args.change.now envelopes c.split_at.result.0.now from c.split_at-2.result.1.now c.partition_point-before.result
    c.partition_point-until.result c.requires.rise c.partition_point-before.ensures.bound
    (c.partition_point-before.ensures.partitioned (λ y. ltb y.0 c.args.id) (always_returns_same _ _ _ (λ a r f k. search (rules, of_calls)))
    (IsPartitionedBy-ltb (λ y. y.0) envelopes c.args.id c.requires.rise))
    c.split_at.ensures.front c.split_at.ensures.back c.partition_point-until.ensures.bound
    (c.partition_point-until.ensures.partitioned (λ y. leb y.0 c.args.id) (always_returns_same _ _ _ (λ a r f k. search (rules, of_calls)))
    (IsPartitionedBy-leb (λ y. y.0) from c.args.id rise))
    c.split_at-2.ensures.back c.args.message_lists.now.items c.add_changed.new.message_lists.items
    (c.in_ok-add_changed.ensures ∙ ap (λ l. l ++ with_change c.args.id c.args.change.now []) c.in_ok-add_sent.ensures)
