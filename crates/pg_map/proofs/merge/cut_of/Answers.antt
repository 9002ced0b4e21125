use Rattle.std.proofs.Common.{of_calls, ltb, rules}
use Rattle.std.proofs.lemmas.Fn.{always_returns_same}
use Rattle.std.proofs.lemmas.List.Sorted.{IsPartitionedBy-ltb}
use Rattle.pg_map.proofs.InParts.{cut_at, keys_rise}
use Rattle.pg_map.proofs.merge.cut_of.Goals as goal

pub returns-in-Some-clause-cut : goal.returns-in-Some-clause-cut
returns-in-Some-clause-cut g c =
    let changes = c.args.changes.now in
    let next = c.in-Some.next.now in
    cut_at c.args.parts.now next _ changes c.partition_point.result c.in-Some.ensures.cases.0 c.partition_point.ensures.bound
    (c.partition_point.ensures.partitioned (λ y. ltb y.0 next.first) (always_returns_same _ _ _ (λ a r f k. search (rules, of_calls)))
    (IsPartitionedBy-ltb (λ y. y.0) changes next.first (keys_rise changes c.requires)))
