use Rattle.std.proofs.Common.{◌≤◌, length, ltb, of_calls, rules, subst, sym}
use Rattle.std.proofs.lemmas.Fn.{always_returns_same}
use Rattle.std.proofs.lemmas.List.Sorted.{IsPartitionedBy-ltb}
use Rattle.pg_inbox_messages.proofs.Grouping.{items_found, run_within}
use Rattle.pg_inbox_messages.proofs.grouped.items_to.Goals as goal

pub split_at-requires-2 : goal.split_at-requires-2
split_at-requires-2 g c = subst (λ n. n ≤ length c.split_at.result.1.now) (sym c.run_len.ensures) (run_within c.args.target c.split_at.result.1.now)

pub returns : goal.returns
returns g c =
    items_found c.args.target c.args.items.now c.split_at.result.1.now c.split_at-2.result.0.now c.partition_point-before.result c.run_len.result
    c.requires c.partition_point-before.ensures.bound
    (c.partition_point-before.ensures.partitioned (λ y. ltb y.0 c.args.target) (always_returns_same _ _ _ (λ a r f k. search (rules, of_calls)))
    (IsPartitionedBy-ltb (λ y. y.0) c.args.items.now c.args.target c.requires))
    c.split_at.ensures.back c.run_len.ensures c.split_at-2.ensures.front
