use Rattle.std.proofs.Common.{◌<◌, ◌≤◌, ◌⊎◌, ◌≡◌, subst, sym}
use Rattle.pg_import.specs.declared.named_edges.NamedEdge.{NamedEdge}
use Rattle.pg_import.proofs.NamedEdgeFacts.{AreBefore-push, AreDistinct-push, AreThereAs-push, IsApart-before}
use Rattle.pg_import.proofs.named_edges.EdgesOnce.add.Goals as goal

pub invariant_of-self-2 : goal.invariant_of-self-2
invariant_of-self-2 c =
    let from = c.self.inside.from in
    let to = c.self.inside.to in
    let edges = c.self.inside.edges.items in
    let edge : NamedEdge = record { source = c.args.source; target = c.args.target; there = c.args.there } in
    let past = subst (λ v. (v.0 < edge.source) ⊎ ((v.0 ≡ edge.source) × (v.1 ≤ edge.target))) (sym c.self.view_is) c.requires in
    let had = c.self.invariant in
    rw (c.in_ok-push.ensures.items, c.number.ensures.value, c.number-self-inside.ensures.value) (
      AreDistinct-push edges edge had.0 (IsApart-before edges from to edge.source edge.target had.1 past),
      AreBefore-push edges from to edge had.1 past,
    )

pub returns-clause-ok : goal.returns-clause-ok
returns-clause-ok c = λ has is so.
    let from = c.self.inside.from in
    let to = c.self.inside.to in
    let edges = c.self.inside.edges.items in
    let edge : NamedEdge = record { source = c.args.source; target = c.args.target; there = c.args.there } in
    let past = subst (λ v. (v.0 < edge.source) ⊎ ((v.0 ≡ edge.source) × (v.1 ≤ edge.target))) (sym c.self.view_is) c.requires in
    let apart = IsApart-before edges from to edge.source edge.target c.self.invariant.1 past in
    rw c.in_ok-push.ensures.items (AreThereAs-push has edge edges apart is (rw (← c.self.view_is) at so))
