use Rattle.std.proofs.Common.{of_calls, rules}
use Rattle.std.proofs.lemmas.Fn.{always_returns_same}
use Rattle.std.proofs.lemmas.List.Sorted.{IsNonDecreasingBy-from_sort}
use Rattle.pg_inbox_messages.proofs.Grouping.{groups_of_sorted}
use Rattle.pg_inbox_messages.proofs.grouped.by_target.Goals as goal

pub returns : goal.returns
returns g c =
    let sorted = c.sort_by_key.new.self.items in
    groups_of_sorted c.args.items.items sorted
    (IsNonDecreasingBy-from_sort (λ i. i.0) sorted
    (c.in_ok-sort_by_key.ensures.sorted (λ i. i.0) (always_returns_same _ _ _ (λ a r f k. search (rules, of_calls)))))
    (c.in_ok-sort_by_key.ensures.stable (λ i. i.0) (always_returns_same _ _ _ (λ a r f k. search (rules, of_calls))))
