use Rattle.std.proofs.Common.{[], refl, sym, ◌∙◌}
use Rattle.std.proofs.lemmas.List.{append-nil}
use Rattle.pg_trace_records.proofs.Parting.{one_added, within_added, within_grown}
use Rattle.pg_trace_records.proofs.changes.RecordChanges.add.Goals as goal

pub invariant_of-self-in_err-contributed : goal.invariant_of-self-in_err-contributed
invariant_of-self-in_err-contributed g c =
    let contributed = c.self.inside.contributed.items in
    within_grown c.self.inside.sent.items c.args.sent.items contributed [] c.self.inside.entries.items c.self.invariant c.in_ok-sent.ensures.list
    (c.in_err-contributed.ensures.err ∙ sym (append-nil contributed)) refl

pub invariant_of-self-in_err-push : goal.invariant_of-self-in_err-push
invariant_of-self-in_err-push g c =
    within_grown c.self.inside.sent.items c.args.sent.items c.self.inside.contributed.items c.args.contributed.items c.self.inside.entries.items
    c.self.invariant c.in_ok-sent.ensures.list c.in_ok-contributed.ensures.list c.in_err-push.ensures.items

pub invariant_of-self-2 : goal.invariant_of-self-2
invariant_of-self-2 g c =
    within_added c.self.inside.sent.items c.args.sent.items c.self.inside.contributed.items c.args.contributed.items c.self.inside.entries.items
    c.self.invariant c.in_ok-sent.ensures.list c.in_ok-contributed.ensures.list c.args.state.id _ c.in_ok-push.ensures.items
    c.in_ok-sent.ensures.first c.in_ok-sent.ensures.count c.in_ok-contributed.ensures.first c.in_ok-contributed.ensures.count

pub returns : goal.returns
returns g c =
    one_added c.self.inside.sent.items c.args.sent.items c.self.inside.contributed.items c.args.contributed.items c.self.inside.entries.items
    c.self.invariant c.in_ok-sent.ensures.list c.in_ok-contributed.ensures.list c.args.state.id _ c.in_ok-push.ensures.items
    c.in_ok-sent.ensures.first c.in_ok-sent.ensures.count c.in_ok-contributed.ensures.first c.in_ok-contributed.ensures.count c.self.view_is
