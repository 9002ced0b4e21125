use Rattle.std.proofs.Common.{arith, map, sym, ap, ◌∙◌, subst}
use Rattle.std.specs.List.{AllByRecursion}
use Rattle.std.proofs.lemmas.List.{nil_from_length}
use Rattle.std.proofs.lemmas.Result.{IfOk-weaker}
use Rattle.pg_model.proofs.LawsLists.{all_from_map}
use Rattle.pg_inbox_messages.specs.Contents.{Holds, messages}
use Rattle.pg_inbox.specs.Inboxes.{received_of}
use Rattle.pg_inbox_bundles.specs.Ordered.{in_order}
use Rattle.pg_inbox.proofs.Delivery.{received_in_order, received_nothing}
use Rattle.pg_inbox.proofs.Merged.{all_at}
use Rattle.pg_inbox.proofs.Valued.{values_in_order, values_of_all}
use Rattle.pg_inbox.proofs.receiving.received.Goals as goal

pub returns-in-empty-clause-inbox : goal.returns-in-empty-clause-inbox
returns-in-empty-clause-inbox g c =
    let combining = g.C.MessageCombiner.combining c.args.combiner.now in
    let none = nil_from_length c.args.message_lists.now (omega (arith, c.in-empty.len_below)) in
    c.new.ensures.items
    ∙ sym (ap (λ l. received_of combining (map (λ p. p.1) l)) none ∙ received_nothing 0 combining)

pub returns-in_ok-envelopes-in_default-clause-inbox : goal.returns-in_ok-envelopes-in_default-clause-inbox
returns-in_ok-envelopes-in_default-clause-inbox g c =
    let combining = g.C.MessageCombiner.combining c.args.combiner.now in
    let all =
    ap (λ l. messages (in_order l)) c.in_ok-envelopes-in_default.ensures
    ∙ sym (received_in_order 0 combining (sym c.combines.ensures ∙ c.if-combines.false) (map (λ p. p.1) c.args.message_lists.now)) in
    IfOk-weaker c.sorted_messages.result _ _ (λ inbox is. is ∙ all) c.sorted_messages.ensures

pub returns-in-len1-clause-values : goal.returns-in-len1-clause-values
returns-in-len1-clause-values g c hold =
    let is_value = g.M.Plain.is_value in
    let message_lists = c.args.message_lists.now in
    let only = c.index-message_lists-0.result in
    let holds =
    all_at (λ p. Holds is_value p.1) message_lists 0 only (omega (arith, c.in-len1.len_at_least)) c.index-message_lists-0.is
    (all_from_map (λ p. p.1) (Holds is_value) message_lists hold) in
    IfOk-weaker c.messages_by_sender.result _ _
    (λ inbox is. subst (AllByRecursion is_value) (ap (λ l. messages (in_order l.1.envelopes)) c.index-message_lists-0.is ∙ sym is)
    (values_in_order is_value only.1.envelopes holds.1)) c.messages_by_sender.ensures

pub returns-in_ok-envelopes-in_default-clause-values : goal.returns-in_ok-envelopes-in_default-clause-values
returns-in_ok-envelopes-in_default-clause-values g c hold =
    let is_value = g.M.Plain.is_value in
    let envelopes = c.in_ok-envelopes-in_default.envelopes.items in
    let values =
    subst (AllByRecursion (λ l. is_value l.1)) (sym c.in_ok-envelopes-in_default.ensures)
    (values_of_all is_value (map (λ p. p.1) c.args.message_lists.now) hold) in
    IfOk-weaker c.sorted_messages.result _ _ (λ inbox is. subst (AllByRecursion is_value) (sym is) (values_in_order is_value envelopes values))
    c.sorted_messages.ensures
