use Rattle.std.proofs.Common.{ap, sym, ◌∙◌, subst, ℕ, List}
use Rattle.std.specs.Ordering.{nat_cmp}
use Rattle.std.specs.List.Sorted.{IsStrictlySortedBy}
use Rattle.pg_model.specs.Superstep.{targets}
use Rattle.pg_model.proofs.LawsMade.{targets-rise}
use Rattle.pg_scratch.specs.Inbox.{with_messages}
use Rattle.pg_scratch.proofs.Settling.{blank_ids, blank_empty, blank_inboxes}
use Rattle.pg_scratch.proofs.undeliverable.waiting_of.Goals as goal

pub deliver-requires-clause-ids : goal.deliver-requires-clause-ids
deliver-requires-clause-ids g c =
    λ _ _. c.in_ok-ids-2.ensures ∙ (sym c.as_slice-2.ensures.value ∙ blank_ids _ c.as_slice-2.result.now c.in_ok-blanks.ensures)

pub deliver-requires-clause-rising : goal.deliver-requires-clause-rising
deliver-requires-clause-rising g c =
    λ _ _. subst (IsStrictlySortedBy nat_cmp) (sym (c.in_ok-ids-2.ensures ∙ (c.in_ok-ids.ensures ∙ ap (targets {M =
    g.row.M.Denot}) c.as_slice.ensures.value))) (targets-rise c.args.undeliverables.items)

pub deliver-requires-clause-empty : goal.deliver-requires-clause-empty
deliver-requires-clause-empty g c = λ _ _. blank_empty _ c.as_slice-2.result.now c.in_ok-blanks.ensures

pub returns : goal.returns
returns g c =
    blank_inboxes (g.C.MessageCombiner.combining c.args.combiner.now) c.args.undeliverables.items c.as_slice-2.result.now
    (targets c.args.undeliverables.items) c.in_ok-blanks.blanks.items c.deliver.new.with_inboxes.items c.in_ok-inboxes.inboxes
    c.in_ok-blanks.ensures
    (c.as_slice-2.ensures.value ∙ (c.in_ok-ids.ensures ∙ ap (targets {M = g.row.M.Denot}) c.as_slice.ensures.value))
    (c.in_ok-deliver.ensures.with_inboxes
    ∙ ap (λ (l : List (ℕ × g.row.M.Denot)). with_messages (g.C.MessageCombiner.combining c.args.combiner.now) l
    c.in_ok-blanks.blanks.items) c.as_slice-3.ensures.value)
    c.in_ok-inboxes.ensures
