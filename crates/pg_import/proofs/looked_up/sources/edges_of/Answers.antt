use Rattle.std.specs.List.Sorted.{IsStrictlySortedBy}
use Rattle.pg_import.proofs.looked_up.sources.edges_of.Goals as goal

pub returns-in-None-clause-rising : goal.returns-in-None-clause-rising
unfolding IsStrictlySortedBy
returns-in-None-clause-rising c = tt
