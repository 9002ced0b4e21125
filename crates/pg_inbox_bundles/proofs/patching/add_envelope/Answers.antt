use Rattle.std.proofs.Common.{[], ◌∷◌, ◌++◌, ap, subst, sym, ◌∙◌}
use Rattle.std.specs.List.{AllByRecursion}
use Rattle.pg_map.proofs.Filling.{all_pushed}
use Rattle.pg_inbox_bundles.proofs.patching.add_envelope.Goals as goal

pub returns-in_err-copied_message-clause-values : goal.returns-in_err-copied_message-clause-values
returns-in_err-copied_message-clause-values g c = c.requires

pub returns-in_err-push-clause-values : goal.returns-in_err-push-clause-values
returns-in_err-push-clause-values g c = subst (AllByRecursion (λ l. g.M.Plain.is_value l.1)) (sym c.in_err-push.ensures.items) c.requires

pub returns-clause-items : goal.returns-clause-items
returns-clause-items g c =
    let before = c.args.envelopes.now.items in
    c.in_ok-push.ensures.items ∙ ap (λ m. before ++ (c.args.sender, m) ∷ []) c.in_ok-copied_message.ensures.same

pub returns-clause-values : goal.returns-clause-values
returns-clause-values g c =
    all_pushed (λ l. g.M.Plain.is_value l.1) c.args.envelopes.now.items c.requires c.in_ok-push.ensures.items c.in_ok-copied_message.ensures.value
