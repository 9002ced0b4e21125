use Rattle.std.proofs.Common.{◌≡◌, Some, ap, get_or, sym, ◌∙◌}
use Rattle.pg_inbox.specs.SparseVec.{value_in}
use Rattle.pg_inbox.specs.SentRow.{last_at}
use Rattle.pg_inbox.proofs.Slots.{slot_other, slot_past, slot_usual}
use Rattle.pg_inbox.proofs.sent_row.SentRow.get.Goals as goal

pub returns-then-to-self : goal.returns-then-to-self
returns-then-to-self g c =
    let row = c.self.inside in
    sym (slot_past row.usual row.others.items row.count c.args.to c.if-to-self.true) ∙ ap (value_in c.args.to) c.self.view_is

pub returns-in-Some : goal.returns-in-Some
returns-in-Some g c =
    let row = c.self.inside in
    let item = c.index.result.now in
    let there : last_at c.args.to row.others.items ≡ Some item.1 =
    ap (last_at c.args.to) (sym c.as_slice.ensures.value)
    ∙ c.in-Some.ensures.1 item
    ∙ ap (λ l. Some (get_or l c.in-Some.place item).1) c.as_slice.ensures.value
    ∙ ap (λ i. Some i.1) (sym c.index.ensures) in
    c.as_ref.ensures.value
    ∙ sym (slot_other row.usual row.others.items row.count c.args.to item.1 c.if-to-self.false there)
    ∙ ap (value_in c.args.to) c.self.view_is

pub returns-in-None : goal.returns-in-None
returns-in-None g c =
    let row = c.self.inside in
    let none = ap (last_at c.args.to) (sym c.as_slice.ensures.value) ∙ c.in-None.ensures in
    sym (slot_usual row.usual row.others.items row.count c.args.to c.if-to-self.false none) ∙ ap (value_in c.args.to) c.self.view_is
