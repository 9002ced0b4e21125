use Rattle.std.proofs.Common.{◌≡◌, ℕ, zero, suc, List, [], ◌∷◌, ◌++◌, cond, get_or, None, Some, ap, subst, sym, ◌∙◌}
use Rattle.std.specs.List.{slice_get, slice_set}
use Rattle.pg_scratch.specs.Pass.{context_after, ran}
use Rattle.pg_scratch.specs.Totals.{Exchanges}
use Rattle.pg_scratch.proofs.execution.execute_at.Goals as goal

was_at : {X : Type 0} (xs : List X) (i : ℕ) (x y : X) → slice_get xs i ≡ Some x → y ≡ get_or xs i y → y ≡ x
was_at [] i x y at is = let k : None ≡ Some x = at in cc
was_at (z ∷ xs) zero x y at is = let k : Some z ≡ Some x = at in let e : y ≡ z = is in cc
was_at (z ∷ xs) (suc i) x y at is = was_at xs i x y at is

pub returns-in_ok-push-clause-with_inboxes : goal.returns-in_ok-push-clause-with_inboxes
returns-in_ok-push-clause-with_inboxes g c x at =
    let was = was_at c.args.with_inboxes.now.items c.args.place x c.index_mut-with_inbox.result.now at c.index_mut-with_inbox.ensures.value in
    ap (slice_set c.args.with_inboxes.now.items c.args.place) (c.in_ok-visit_counted.ensures.with_inbox ∙ ap
    (ran (g.P.Computation.program c.args.program.now) c.args.cx.now.view) was)

pub returns-in_ok-push-clause-context : goal.returns-in_ok-push-clause-context
returns-in_ok-push-clause-context g c x at =
    let was = was_at c.args.with_inboxes.now.items c.args.place x c.index_mut-with_inbox.result.now at c.index_mut-with_inbox.ensures.value in
    c.in_ok-visit_counted.ensures.context ∙ ap (context_after (g.P.Computation.program c.args.program.now) c.args.cx.now) was

pub returns-in_ok-push-clause-unhalted : goal.returns-in_ok-push-clause-unhalted
returns-in_ok-push-clause-unhalted g c x at =
    let was = was_at c.args.with_inboxes.now.items c.args.place x c.index_mut-with_inbox.result.now at c.index_mut-with_inbox.ensures.value in
    let now = c.in_ok-visit_counted.ensures.with_inbox ∙ ap (ran (g.P.Computation.program c.args.program.now) c.args.cx.now.view) was in
    let places = c.args.found.now.unhalted.items in
    c.in_ok-push.ensures.items
    ∙ ap (λ b. cond b places (places ++ c.args.place ∷ [])) (sym c.if-not-with_inbox.true ∙ ap (λ y. y.state.halted) now)

pub returns-in_ok-push-clause-edges : goal.returns-in_ok-push-clause-edges
returns-in_ok-push-clause-edges g c x at =
    let was = was_at c.args.with_inboxes.now.items c.args.place x c.index_mut-with_inbox.result.now at c.index_mut-with_inbox.ensures.value in
    subst (λ y. Exchanges c.args.found.now.edges c.visit_counted.new.edges y (ran (g.P.Computation.program c.args.program.now) c.args.cx.now.view y)) was
    c.in_ok-visit_counted.ensures.edges

pub returns-else-not-with_inbox-clause-with_inboxes : goal.returns-else-not-with_inbox-clause-with_inboxes
returns-else-not-with_inbox-clause-with_inboxes g c x at =
    let was = was_at c.args.with_inboxes.now.items c.args.place x c.index_mut-with_inbox.result.now at c.index_mut-with_inbox.ensures.value in
    ap (slice_set c.args.with_inboxes.now.items c.args.place) (c.in_ok-visit_counted.ensures.with_inbox ∙ ap
    (ran (g.P.Computation.program c.args.program.now) c.args.cx.now.view) was)

pub returns-else-not-with_inbox-clause-context : goal.returns-else-not-with_inbox-clause-context
returns-else-not-with_inbox-clause-context g c x at =
    let was = was_at c.args.with_inboxes.now.items c.args.place x c.index_mut-with_inbox.result.now at c.index_mut-with_inbox.ensures.value in
    c.in_ok-visit_counted.ensures.context ∙ ap (context_after (g.P.Computation.program c.args.program.now) c.args.cx.now) was

pub returns-else-not-with_inbox-clause-unhalted : goal.returns-else-not-with_inbox-clause-unhalted
returns-else-not-with_inbox-clause-unhalted g c x at =
    let was = was_at c.args.with_inboxes.now.items c.args.place x c.index_mut-with_inbox.result.now at c.index_mut-with_inbox.ensures.value in
    let now = c.in_ok-visit_counted.ensures.with_inbox ∙ ap (ran (g.P.Computation.program c.args.program.now) c.args.cx.now.view) was in
    let places = c.args.found.now.unhalted.items in
    ap (λ b. cond b places (places ++ c.args.place ∷ [])) (sym c.if-not-with_inbox.false ∙ ap (λ y. y.state.halted) now)

pub returns-else-not-with_inbox-clause-edges : goal.returns-else-not-with_inbox-clause-edges
returns-else-not-with_inbox-clause-edges g c x at =
    let was = was_at c.args.with_inboxes.now.items c.args.place x c.index_mut-with_inbox.result.now at c.index_mut-with_inbox.ensures.value in
    subst (λ y. Exchanges c.args.found.now.edges c.visit_counted.new.edges y (ran (g.P.Computation.program c.args.program.now) c.args.cx.now.view y)) was
    c.in_ok-visit_counted.ensures.edges
