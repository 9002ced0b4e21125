use Rattle.std.proofs.Common.{ap, ◌∙◌, map, subst, sym}
use Rattle.std.proofs.lemmas.Result.{IfOk-weaker}
use Rattle.std.specs.List.{AllByRecursion}
use Rattle.pg_map.specs.Entries.{value_at}
use Rattle.pg_inbox_messages.specs.Contents.{Holds}
use Rattle.pg_inbox_bundles.specs.Holding.{HoldsAt}
use Rattle.pg_inbox.specs.Inboxes.{Delivers, received_of}
use Rattle.pg_inbox.proofs.Delivery.{delivers_received}
use Rattle.pg_inbox.proofs.Valued.{hold_at}
use Rattle.pg_model.proofs.LawsLists.{all_to_map}
use Rattle.pg_inbox.proofs.receiving.inbox.Goals as goal

pub returns-clause-delivers : goal.returns-clause-delivers
returns-clause-delivers g c =
    let combining = g.C.MessageCombiner.combining c.args.combiner.now in
    let id = c.args.id in
    let bundles = c.args.bundles.now in
    let is_value = g.M.Plain.is_value in
    let laws = g.met.C.MessageCombiner g.world.𝓛 g.world.𝓜 g.world.𝓡 ((λ s x. x), (λ x. x), (λ x. x), λ x. x) in
    let delivers =
    delivers_received id is_value combining (laws.lawful c.args.combiner.now) (map (λ b. b.now) bundles)
    (all_to_map (λ b. b.now) (λ b. HoldsAt is_value (value_at id b)) bundles c.in_ok-message_lists.ensures.hold) in
    let message_lists = ap (map (λ p. p.1)) c.as_slice.ensures.value ∙ c.in_ok-message_lists.ensures.items in
    IfOk-weaker c.received.result _ _
    (λ inbox is. subst (Delivers combining id (map (λ b. b.now) bundles)) (sym (is ∙ ap (received_of combining) message_lists)) delivers)
    c.received.ensures.inbox

pub returns-clause-values : goal.returns-clause-values
returns-clause-values g c =
    let id = c.args.id in
    let bundles = c.args.bundles.now in
    let is_value = g.M.Plain.is_value in
    let hold =
    hold_at is_value id (map (λ b. b.now) bundles)
    (all_to_map (λ b. b.now) (λ b. HoldsAt is_value (value_at id b)) bundles c.in_ok-message_lists.ensures.hold) in
    let message_lists = ap (map (λ p. p.1)) c.as_slice.ensures.value ∙ c.in_ok-message_lists.ensures.items in
    c.received.ensures.values (subst (AllByRecursion (Holds is_value)) (sym message_lists) hold)
