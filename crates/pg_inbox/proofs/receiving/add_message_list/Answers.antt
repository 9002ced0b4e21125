use Rattle.std.proofs.Common.{◌++◌, ap, map, sym, ◌∙◌}
use Rattle.std.specs.Option.{option_to_list}
use Rattle.std.proofs.lemmas.List.{append-nil, map-append}
use Rattle.pg_inbox.proofs.receiving.add_message_list.Goals as goal

pub returns-in_ok-push-clause-items : goal.returns-in_ok-push-clause-items
returns-in_ok-push-clause-items g c =
    let before = map (λ p. p.1) c.args.message_lists.now.items in
    ap (map (λ p. p.1)) c.in_ok-push.ensures.items ∙ map-append (λ p. p.1) c.args.message_lists.now.items _
    ∙ ap (λ o. before ++ option_to_list o) (sym c.in-Some.is ∙ c.message_list.ensures.value)

pub returns-in_default-clause-items : goal.returns-in_default-clause-items
returns-in_default-clause-items g c =
    let before = map (λ p. p.1) c.args.message_lists.now.items in
    sym (append-nil before) ∙ ap (λ o. before ++ option_to_list o) (sym c.in_default.is ∙ c.message_list.ensures.value)
