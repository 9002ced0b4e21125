use Rattle.std.proofs.Common.{of_calls, rules, ap, ◌∙◌}
use Rattle.std.proofs.lemmas.Fn.{always_returns_same}
use Rattle.std.proofs.lemmas.List.Sorted.{IsNonDecreasingBy-from_sort}
use Rattle.std.proofs.lemmas.Result.{IfOk-weaker}
use Rattle.pg_inbox_messages.specs.Contents.{messages}
use Rattle.pg_inbox_bundles.proofs.Replacing.{sorted_in_order}
use Rattle.pg_inbox.proofs.receiving.sorted_messages.Goals as goal

pub returns : goal.returns
returns g c =
    let sorted = c.sort_by_key.new.self.items in
    let all =
    ap messages (sorted_in_order c.args.envelopes.items sorted
    (IsNonDecreasingBy-from_sort (λ x. x.0) sorted
    (c.in_ok-sort_by_key.ensures.sorted (λ x. x.0) (always_returns_same _ _ _ (λ a r f k. search (rules, of_calls)))))
    (c.in_ok-sort_by_key.ensures.stable (λ x. x.0) (always_returns_same _ _ _ (λ a r f k. search (rules, of_calls))))) in
    IfOk-weaker c.messages_of.result _ _ (λ inbox is. is ∙ all) c.messages_of.ensures
