use Rattle.std.proofs.Common.{◌+◌, ◌≤◌, ◌==◌, [], cond, length, Some, ap, arith, subst, sym, ◌∙◌}
use Rattle.pg_inbox.specs.SparseVec.{value_in}
use Rattle.pg_inbox.specs.SentRow.{AreBelow, slots_in}
use Rattle.pg_inbox.proofs.Slots.{below_more, below_push, length-slots, put_other, put_usual}
use Rattle.pg_inbox.proofs.sent_row.SentRow.put.Goals as goal

pub returns-then-is_empty-clause-ok : goal.returns-then-is_empty-clause-ok
returns-then-is_empty-clause-ok g c = λ q.
    let row = c.self.inside in
    let others = row.others.items in
    let logged = c.args.logged in
    let none = c.if-self-eq0.true in
    ap (λ n. value_in q (slots_in (n + 1) logged others)) (sym none)
    ∙ put_usual logged others row.count c.self.invariant q
    ∙ ap (λ n. cond (n == q) (Some logged) (value_in q (slots_in n logged others))) none
    ∙ ap (λ n. cond (n == q) (Some logged) (value_in q [])) (sym c.if-to-eq0.true)
    ∙ ap (λ l. cond (c.args.to == q) (Some logged) (value_in q l)) (ap (λ n. slots_in n row.usual others) (sym none) ∙ c.self.view_is)

pub invariant_of-self-then-is_like : goal.invariant_of-self-then-is_like
invariant_of-self-then-is_like g c =
    let row = c.self.inside in
    below_more row.usual row.others.items row.count c.self.invariant (row.count + 1) (omega arith)

pub returns-then-is_like-clause-ok : goal.returns-then-is_like-clause-ok
returns-then-is_like-clause-ok g c = λ q.
    let row = c.self.inside in
    let before = slots_in row.count row.usual row.others.items in
    put_usual row.usual row.others.items row.count c.self.invariant q
    ∙ ap (λ n. cond (n == q) (Some row.usual) (value_in q before)) (sym c.if-to-self.true)
    ∙ ap (λ u. cond (c.args.to == q) (Some u) (value_in q before)) (sym (c.is_like.ensures c.if-is_like.true))
    ∙ ap (λ l. cond (c.args.to == q) (Some c.args.logged) (value_in q l)) c.self.view_is

pub invariant_of-self-2 : goal.invariant_of-self-2
invariant_of-self-2 g c =
    let row = c.self-2.inside in
    subst (AreBelow c.past-self-inside.result) (sym c.in_ok-push.ensures.items)
    (below_push row.usual row.others.items row.count c.self-2.invariant c.past-self-inside.result c.args.to (Some c.args.logged) c.past-self-inside.ensures.within.0
    c.past-self-inside.ensures.within.1)

pub returns-clause-ok : goal.returns-clause-ok
returns-clause-ok g c = λ q.
    let row = c.self-2.inside in
    let room : c.args.to ≤ row.count =
    subst (λ n. c.args.to ≤ n) (ap length (sym c.self-2.view_is) ∙ length-slots row.count row.usual row.others.items) c.in_ok-fill.ensures.room in
    ap (λ l. value_in q (slots_in c.past-self-inside.result row.usual l)) c.in_ok-push.ensures.items
    ∙ put_other row.usual row.others.items row.count c.self-2.invariant c.past-self-inside.result c.args.to (Some c.args.logged) room c.past-self-inside.ensures.within.0
    c.past-self-inside.ensures.within.1 c.past-self-inside.ensures.least q
    ∙ ap (λ x. cond (c.args.to == q) (Some c.args.logged) x) (ap (value_in q) c.self-2.view_is ∙ c.in_ok-fill.ensures.same q)
