use Rattle.std.proofs.Common.{◌+◌, ◌≤◌, length, take, sym, ◌∙◌, subst}
use Rattle.std.proofs.lemmas.List.{take_all}
use Rattle.pg_import.specs.NamedEdges.{IsApart, StandsAt}
use Rattle.pg_import.proofs.NamedEdgeFacts.{IsApart-more, stands_at}
use Rattle.pg_import.proofs.named_edges.NamedEdges.search.Goals as goal

pub returns-then-is_edge-clause-some : goal.returns-then-is_edge-clause-some
returns-then-is_edge-clause-some c =
    let source = c.args.source in
    let target = c.args.target in
    let place = c.loop-place.place in
    subst (λ l. StandsAt source target l place) (c.deref-edge-items.ensures.value ∙ c.self.view_is)
    (stands_at source target c.deref-edge-items.result.now place c.loop-place-test.true c.edge-item.is (sym c.is_edge.ensures ∙ c.if-is_edge.true))

pub loop-place-preserved : goal.loop-place-preserved
loop-place-preserved c =
    let source = c.args.source in
    let target = c.args.target in
    let place = c.loop-place.place in
    let same = c.deref-edge-items.ensures.value ∙ c.self.view_is in
    let before = subst (λ l. IsApart source target (take place l)) (sym same) c.loop-place.invariant in
    subst (λ l. IsApart source target (take (place + 1) l)) same
    (IsApart-more source target c.deref-edge-items.result.now place c.loop-place-test.true c.edge-item.is before
    (sym c.is_edge.ensures ∙ c.if-is_edge.false))

pub returns-clause-none : goal.returns-clause-none
returns-clause-none c = λ none.
    let place = c.loop-place.place in
    let over = subst (λ l. length l ≤ place) (c.deref-edge-items.ensures.value ∙ c.self.view_is) c.loop-place-test.false in
    subst (IsApart c.args.source c.args.target) (take_all place c.args.self.now over) c.loop-place.invariant
