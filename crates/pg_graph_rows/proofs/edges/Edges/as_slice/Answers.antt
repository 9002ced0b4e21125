use Rattle.std.specs.List.Sorted.{IsStrictlySortedBy}
use Rattle.pg_graph_rows.proofs.edges.Edges.as_slice.Goals as goal

pub returns-in-None-clause-rising : goal.returns-in-None-clause-rising
unfolding IsStrictlySortedBy
returns-in-None-clause-rising c = tt
