use Rattle.std.proofs.Common.{◌≡◌, true, not, ap, sym, ◌∙◌}
use Rattle.std.proofs.lemmas.Option.{get_or_from_slice_get}
use Rattle.pg_import.specs.NamedEdges.{AreDistinct}
use Rattle.pg_import.specs.declared.named_edges.NamedEdge.{NamedEdge}
use Rattle.pg_import.proofs.NamedEdgeFacts.{AreDistinct-set, there_at, there_in-set}
use Rattle.pg_import.proofs.named_edges.NamedEdges.name.Goals as goal

pub invariant_of-self : goal.invariant_of-self
invariant_of-self c =
    let at = c.in_ok-place.ensures.some in
    rw c.self.view_is (AreDistinct-set c.args.self.now c.in_ok-place.place at.0 _ (rw c.self.view_is at c.self.invariant) at.1 at.2 at.3)

pub returns-clause-added : goal.returns-clause-added
returns-clause-added c = λ elsewhere.
    let at = c.in_ok-place.ensures.some in
    let edges = c.args.self.now in
    let distinct : AreDistinct edges = rw c.self.view_is at c.self.invariant in
    let read = rw c.self.view_is at c.index.ensures in
    let is : c.index.result.now ≡ at.0 = read ∙ get_or_from_slice_get edges c.in_ok-place.place at.0 c.index.result.now at.1 in
    ap not (ap (λ e. e.there) is ∙ sym (rw (at.2, at.3) at (there_at elsewhere edges c.in_ok-place.place at.0 distinct at.1)))

pub returns-clause-named : goal.returns-clause-named
returns-clause-named c = λ s t elsewhere.
    let at = c.in_ok-place.ensures.some in
    let edges = c.args.self.now in
    let distinct : AreDistinct edges = rw c.self.view_is at c.self.invariant in
    let edge : NamedEdge = record { source = c.args.source; target = c.args.target; there = true } in
    rw c.self.view_is (there_in-set edge edges c.in_ok-place.place at.0 s t elsewhere distinct at.1 at.2 at.3)
