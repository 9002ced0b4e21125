use Rattle.std.proofs.Common.{rules}
use Rattle.std.proofs.lemmas.List.Sorted.{answers_always}
use Rattle.pg_graph_rows.proofs.AtPlace.{searched}
use Rattle.pg_graph_rows.proofs.draft.listed.ListedEdges.place_of.Goals as goal

pub returns : goal.returns
returns c =
    let facts = c.binary_search_by_key.ensures in
    let by_key = facts.position (λ e. e.0) (answers_always _ _ _ (λ f a r g h. search rules)) in
    rw (← c.self.view_is, ← c.deref.ensures.value) (searched _ c.args.target _ (rw c.deref.ensures.value c.self.invariant) facts.bound by_key)
