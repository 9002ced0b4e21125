use Rattle.std.proofs.Common.{◌++◌, ◌∷◌, [], ap, of_calls, rules, ◌∙◌}
use Rattle.std.proofs.lemmas.Fn.{always_returns_same}
use Rattle.std.proofs.lemmas.List.Sorted.{IsNonDecreasingBy-from_sort}
use Rattle.std.proofs.lemmas.Result.{IfOk-weaker}
use Rattle.pg_inbox_messages.specs.Contents.{messages}
use Rattle.pg_inbox_bundles.specs.Ordered.{in_order}
use Rattle.pg_inbox.proofs.Parting.{added}
use Rattle.pg_inbox_bundles.proofs.Replacing.{sorted_in_order}
use Rattle.pg_inbox.proofs.delivered.Inboxes.with_envelopes.Goals as goal

pub returns-clause-inboxes : goal.returns-clause-inboxes
returns-clause-inboxes g c =
    let before = c.self.inside.messages.items in
    let envelopes = c.args.envelopes.now.items in
    let more = messages (in_order envelopes) in
    let sorted = c.sort_by_key.new.self.items in
    let in_their_order =
    sorted_in_order envelopes sorted
    (IsNonDecreasingBy-from_sort (λ x. x.0) sorted
    (c.in_ok-sort_by_key.ensures.sorted (λ x. x.0) (always_returns_same _ _ _ (λ a r f k. search (rules, of_calls)))))
    (c.in_ok-sort_by_key.ensures.stable (λ x. x.0) (always_returns_same _ _ _ (λ a r f k. search (rules, of_calls)))) in
    let all =
    c.in_ok-add_messages.ensures ∙ ap (λ l. before ++ messages l) (c.as_slice.ensures.value ∙ in_their_order) in
    IfOk-weaker c.ended.result _ _ (λ inboxes is.
    is ∙ added before more c.self.inside.parts.items c.args.id c.self.invariant all (c.len-first.ensures ∙ c.self.inside.messages.ok.0)
    ∙ ap (λ l. l ++ (c.args.id, more) ∷ []) c.self.view_is) c.ended.ensures
