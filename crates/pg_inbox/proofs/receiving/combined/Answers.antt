use Rattle.std.proofs.Common.{◌≡◌, [], IfSome, not, ap, refl, subst, sym, ◌∙◌, take}
use Rattle.std.specs.List.{fold}
use Rattle.std.specs.Option.{option_to_list}
use Rattle.std.proofs.lemmas.List.{take_all}
use Rattle.std.proofs.lemmas.Result.{IfOk-weaker}
use Rattle.pg_model.specs.Superstep.{is_empty}
use Rattle.pg_inbox.specs.Inboxes.{folded_of}
use Rattle.pg_inbox_bundles.proofs.ToTarget.{gathered_parts}
use Rattle.pg_inbox.proofs.Taking.{any_more, combined_all, combined_more, combined_none, none_or_any}
use Rattle.pg_inbox.proofs.receiving.combined.Goals as goal

pub loop-message_list-preserved : goal.loop-message_list-preserved
loop-message_list-preserved g c =
    let now = c.loop-message_list in
    let message_lists = c.args.message_lists.now in
    let taken = folded_of (take now.message_list-index message_lists) in
    let folded = c.loop-message_list-item.result.1.folded in
    let next = gathered_parts (λ p. p.1) (λ p. option_to_list p.folded) [] message_lists now.message_list-index c.loop-message_list-test.true c.loop-message_list-item.is refl refl in
    record {
      so_far = combined_more (g.C.MessageCombiner.combining c.args.combiner.now) taken (option_to_list folded) now.so_far _ next
          now.invariant.so_far c.in_ok-is_any.ensures.more;
      any = any_more taken folded _ _ now.invariant.any c.in_ok-is_any.ensures.any ∙ ap (λ l. not (is_empty l)) next;
    }

pub returns-then-not-is_any-clause-inbox : goal.returns-then-not-is_any-clause-inbox
returns-then-not-is_any-clause-inbox g c =
    let combining = g.C.MessageCombiner.combining c.args.combiner.now in
    let all = ap folded_of (take_all c.loop-message_list.message_list-index c.args.message_lists.now c.loop-message_list-test.false) in
    c.new.ensures.items ∙ combined_none combining (folded_of c.args.message_lists.now) c.requires
    (ap is_empty (sym all) ∙ none_or_any _ _ c.loop-message_list.invariant.any c.if-not-is_any.true)

pub returns-clause-inbox : goal.returns-clause-inbox
returns-clause-inbox g c =
    let combining = g.C.MessageCombiner.combining c.args.combiner.now in
    let so_far = c.loop-message_list.so_far in
    let all = ap folded_of (take_all c.loop-message_list.message_list-index c.args.message_lists.now c.loop-message_list-test.false) in
    let one =
    combined_all combining (folded_of c.args.message_lists.now) so_far c.requires
    (ap is_empty (sym all) ∙ none_or_any _ _ c.loop-message_list.invariant.any c.if-not-is_any.false)
    (subst (λ l. IfSome combining (λ k. so_far ≡ fold k.combine k.initial l)) all c.loop-message_list.invariant.so_far) in
    IfOk-weaker c.inbox_of_one.result _ _ (λ inbox is. is ∙ one) c.inbox_of_one.ensures.inbox
