use Rattle.std.proofs.Common.{rules}
use Rattle.std.proofs.lemmas.List.Sorted.{answers_always}
use Rattle.pg_graph.proofs.Handed.{searched}
use Rattle.pg_program.proofs.search.place_of.Goals as goal

pub returns : goal.returns
returns c =
    let found = c.binary_search_by_key.ensures.position (λ e. e.0) (answers_always _ _ _ (λ f a r g h. search rules)) in
    searched c.args.edges.now c.args.target c.binary_search_by_key.result c.requires c.binary_search_by_key.ensures.bound found
