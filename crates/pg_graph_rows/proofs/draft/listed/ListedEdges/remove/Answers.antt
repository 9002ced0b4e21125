use Rattle.pg_graph_rows.proofs.AtPlace.{rises_removed}
use Rattle.pg_graph_rows.proofs.draft.listed.ListedEdges.remove.Goals as goal

pub invariant_of-self-in-Ok : goal.invariant_of-self-in-Ok
invariant_of-self-in-Ok c = rises_removed _ c.args.target c.in-Ok.place c.self.invariant _ c.in-Ok.ensures.found c.remove.ensures.items
