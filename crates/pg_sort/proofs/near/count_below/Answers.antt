use Rattle.std.proofs.Common.{ltb, of_calls, rules}
use Rattle.std.proofs.lemmas.Fn.{always_returns_same}
use Rattle.std.proofs.lemmas.List.Sorted.{IsPartitionedBy-ltb}
use Rattle.pg_sort.proofs.near.count_below.Goals as goal

pub returns-clause-parts : goal.returns-clause-parts
returns-clause-parts g c =
    let number = g.T.HasId.id_of in
    c.partition_point-2.ensures.partitioned (λ t. ltb (number t) c.args.id) (always_returns_same _ _ _ (λ a r f k. search (rules, of_calls)))
    (IsPartitionedBy-ltb number c.args.items.now c.args.id c.requires)
