use Rattle.std.specs.List.Sorted.{IsStrictlySortedBy}
use Rattle.pg_graph_rows.proofs.edges.Edges.new.Goals as goal

pub invariant_of-result : goal.invariant_of-result
unfolding IsStrictlySortedBy
invariant_of-result c = tt
