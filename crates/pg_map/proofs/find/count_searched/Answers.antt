use Rattle.std.proofs.Common.{of_calls, ltb, rules}
use Rattle.std.proofs.lemmas.Fn.{always_returns_same}
use Rattle.std.proofs.lemmas.List.Sorted.{IsPartitionedBy-ltb}
use Rattle.pg_map.proofs.Search.{rises}
use Rattle.pg_map.proofs.find.count_searched.Goals as goal

pub returns : goal.returns
returns g c =
    c.partition_point.ensures.partitioned (λ y. ltb y.0 c.args.id) (always_returns_same _ _ _ (λ a r f k. search (rules, of_calls)))
    (IsPartitionedBy-ltb (λ y. y.0) c.args.entries.now c.args.id (λ i j d h w. rises c.args.entries.now i j d c.requires h w))
