use Rattle.std.proofs.Common.{true}
use Rattle.pg_import.specs.declared.named_edges.NamedEdge.{NamedEdge}
use Rattle.pg_import.proofs.NamedEdgeFacts.{AreDistinct-push, there_in-push}
use Rattle.pg_import.proofs.named_edges.NamedEdges.push_named.Goals as goal

pub invariant_of-self-2 : goal.invariant_of-self-2
invariant_of-self-2 c =
    rw (c.in_ok-push.ensures.items, c.self.view_is) (AreDistinct-push c.args.self.now _ (rw c.self.view_is at c.self.invariant) c.requires)

pub returns : goal.returns
returns c = λ s t elsewhere.
    let edge : NamedEdge = record { source = c.args.source; target = c.args.target; there = true } in
    rw (c.in_ok-push.ensures.items, c.self.view_is) (there_in-push edge c.args.self.now c.requires s t elsewhere)
