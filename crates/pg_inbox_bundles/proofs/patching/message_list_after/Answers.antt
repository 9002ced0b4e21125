use Rattle.std.proofs.Common.{◌==◌, ◌≡◌, false, true, Some, ap, sym, ◌∙◌, option_map, subst}
use Rattle.pg_model.specs.Superstep.{is_empty}
use Rattle.pg_inbox_messages.specs.Contents.{contents_of, Holds}
use Rattle.pg_inbox_messages.specs.Grouping.{any_of}
use Rattle.pg_inbox_messages.proofs.Grouping.{any_of_none, any_of_some}
use Rattle.pg_inbox_bundles.proofs.patching.message_list_after.Goals as goal

pub returns-clause-value : goal.returns-clause-value
returns-clause-value g c =
    let contents = contents_of (g.C.MessageCombiner.combining c.args.combiner.now) in
    let remaining = c.in_ok-envelopes.envelopes in
    let some : is_empty remaining.items ≡ false = ap (λ n. n == 0) (sym remaining.ok.0) ∙ sym c.if-is_empty.ensures in
    ap Some (c.in_ok-message_list.ensures)
    ∙ ap (option_map contents)
    (sym (any_of_some remaining.items some) ∙ ap any_of (c.in_ok-envelopes.ensures.items))

pub returns-then-is_empty-clause-value : goal.returns-then-is_empty-clause-value
returns-then-is_empty-clause-value g c =
    let remaining = c.in_ok-envelopes.envelopes in
    let none : is_empty remaining.items ≡ true = ap (λ n. n == 0) (sym remaining.ok.0) ∙ sym c.if-is_empty.ensures in
    ap (option_map (contents_of (g.C.MessageCombiner.combining c.args.combiner.now)))
    (sym (any_of_none remaining.items none) ∙ ap any_of (c.in_ok-envelopes.ensures.items))

pub of-requires-after_bounds : goal.of-requires-after_bounds
of-requires-after_bounds g c κs within =
    let remaining = c.in_ok-envelopes.envelopes in
    let some : is_empty remaining.items ≡ false = ap (λ n. n == 0) (sym remaining.ok.0) ∙ sym c.if-is_empty.ensures in
    (some, c.in_ok-envelopes.ensures.values)

pub returns-clause-holds : goal.returns-clause-holds
returns-clause-holds g c =
    let remaining = c.in_ok-envelopes.envelopes in
    let contents = contents_of (g.C.MessageCombiner.combining c.args.combiner.now) in
    let some : is_empty remaining.items ≡ false = ap (λ n. n == 0) (sym remaining.ok.0) ∙ sym c.if-is_empty.ensures in
    subst (Holds g.M.Plain.is_value) (sym (c.in_ok-message_list.ensures)) (some, c.in_ok-envelopes.ensures.values)
