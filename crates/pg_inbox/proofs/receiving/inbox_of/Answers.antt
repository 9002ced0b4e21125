use Rattle.std.proofs.Common.{◌∷◌, [], ap, ◌∙◌, ◌++◌, ◌||◌, false, is_some, subst, sym}
use Rattle.std.proofs.lemmas.Result.{IfOk-weaker}
use Rattle.std.specs.Option.{option_to_list}
use Rattle.pg_inbox_bundles.specs.Holding.{HoldsAt}
use Rattle.pg_inbox.specs.Inboxes.{Delivers, received_of}
use Rattle.pg_inbox.proofs.Delivery.{delivers_nothing, delivers_received}
use Rattle.pg_inbox.proofs.receiving.inbox_of.Goals as goal

pub returns-in-Some-clause-delivers : goal.returns-in-Some-clause-delivers
returns-in-Some-clause-delivers g c =
    let combining = g.C.MessageCombiner.combining c.args.combiner.now in
    let id = c.args.id in
    let bundle = c.args.bundle.now in
    let laws = g.met.C.MessageCombiner g.world.𝓛 g.world.𝓜 g.world.𝓡 ((λ s x. x), (λ x. x), (λ x. x), λ x. x) in
    let delivers = delivers_received id g.M.Plain.is_value combining (laws.lawful c.args.combiner.now) (bundle ∷ []) (c.message_list.ensures.holds, tt) in
    IfOk-weaker c.received.result _ _
    (λ inbox is. subst (Delivers combining id (bundle ∷ []))
    (sym (is ∙ ap (λ o. received_of combining (option_to_list o ++ [])) (sym c.in-Some.is ∙ c.message_list.ensures.value))) delivers)
    c.received.ensures.inbox

pub returns-in-None-clause-delivers : goal.returns-in-None-clause-delivers
returns-in-None-clause-delivers g c =
    let id = c.args.id in
    subst (Delivers (g.C.MessageCombiner.combining c.args.combiner.now) id (c.args.bundle.now ∷ [])) (sym c.new.ensures.items)
    (delivers_nothing id (c.args.bundle.now ∷ []) (ap (λ o. is_some o || false) (sym c.message_list.ensures.value ∙ c.in-None.is))
    (g.C.MessageCombiner.combining c.args.combiner.now))

pub returns-in-Some-clause-values : goal.returns-in-Some-clause-values
returns-in-Some-clause-values g c =
    c.received.ensures.values
    (subst (HoldsAt g.M.Plain.is_value) (sym c.message_list.ensures.value ∙ c.in-Some.is) c.message_list.ensures.holds, tt)
