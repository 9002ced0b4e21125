use Rattle.std.proofs.Common.{of_calls, rules, ap, ◌∙◌, ◌++◌, filter, map, not}
use Rattle.std.specs.Option.{option_copied}
use Rattle.std.proofs.lemmas.Fn.{always_returns_same}
use Rattle.std.proofs.lemmas.List.Sorted.{IsNonDecreasingBy-from_sort}
use Rattle.pg_model.specs.Superstep.{has_id}
use Rattle.pg_inbox_bundles.specs.Bundles.{envelopes_in}
use Rattle.pg_inbox_bundles.specs.MessageEdits.{inserted}
use Rattle.pg_inbox_bundles.specs.Ordered.{in_order}
use Rattle.pg_inbox_bundles.proofs.Replacing.{sorted_in_order, values_sorted}
use Rattle.pg_inbox_bundles.proofs.patching.edited_envelopes.Goals as goal

pub returns-clause-items : goal.returns-clause-items
returns-clause-items g c =
    let sorted = c.sort_by_key.new.self.items in
    sorted_in_order c.add_envelopes.new.after.items sorted
    (IsNonDecreasingBy-from_sort (λ x. x.0) sorted
    (c.in_ok-sort_by_key.ensures.sorted (λ x. x.0) (always_returns_same _ _ _ (λ a r f k. search (rules, of_calls)))))
    (c.in_ok-sort_by_key.ensures.stable (λ x. x.0) (always_returns_same _ _ _ (λ a r f k. search (rules, of_calls))))
    ∙ ap in_order (c.in_ok-add_envelopes.ensures.items
    ∙ ap (λ l. l ++ inserted (map (λ m. m.1) c.args.message_edits.now)) (c.in_ok-after.ensures.items
    ∙ ap (λ p. filter p (envelopes_in (option_copied c.args.old))) (λ i l. not ((ap (λ w. has_id w l.0) c.as_slice.ensures.value ∙ c.in_ok-retracted.ensures.same l.0) i))))

pub returns-clause-values : goal.returns-clause-values
returns-clause-values g c =
    values_sorted (λ l. g.M.Plain.is_value l.1) _ _ c.in_ok-sort_by_key.ensures.permutation c.in_ok-add_envelopes.ensures.values
