use Rattle.std.proofs.Common.{◌≡◌, ◌∙◌, IfSome, ap, arith, length, map, subst, sym}
use Rattle.std.specs.List.{AllByRecursion}
use Rattle.std.proofs.lemmas.Result.{IfOk-weaker}
use Rattle.std.specs.Map.{values_of}
use Rattle.std.proofs.lemmas.List.Elements.{recursion_from_All}
use Rattle.pg_map.specs.Entries.{HasRisingIds}
use Rattle.pg_model.proofs.LawsLists.{all_from_map, all_to_map, all_weaker}
use Rattle.pg_inbox_messages.specs.Grouping.{AreGroups, groups_of}
use Rattle.pg_inbox_messages.specs.Contents.{Holds}
use Rattle.pg_inbox_bundles.specs.Holding.{HoldAll}
use Rattle.pg_inbox.specs.Inboxes.{AreInboxes, inboxes_of}
use Rattle.pg_inbox.proofs.Delivery.{are_inboxes, inboxes_of_one, only_one}
use Rattle.pg_inbox_bundles.proofs.ToTarget.{flat_map-of_map}
use Rattle.pg_inbox.specs.Merged.{StandByTarget}
use Rattle.pg_inbox_bundles.specs.Sound.{sent_message_lists}
use Rattle.pg_inbox.proofs.Merged.{merged_inboxes}
use Rattle.pg_inbox.proofs.receivers.inboxes.Goals as goal

pub returns : goal.returns
returns g c =
    let is_value = g.M.Plain.is_value in
    let combining = g.C.MessageCombiner.combining c.args.combiner.now in
    let laws = g.met.C.MessageCombiner g.world.𝓛 g.world.𝓜 g.world.𝓡 ((λ s x. x), (λ x. x), (λ x. x), λ x. x) in
    let bundles = map (λ b. b.now) c.args.bundles.now in
    let groups = groups_of c.in_ok-message_lists-2.message_lists.items in
    let all = c.in_ok-message_lists.ensures.items ∙ sym (flat_map-of_map (λ b. b) (λ b. b.now) c.args.bundles.now) in
    let are =
    are_inboxes is_value combining (laws.lawful c.args.combiner.now) bundles groups
    (subst (λ l. AreGroups l groups) all c.in_ok-message_lists-2.ensures)
    (all_to_map (λ b. b.now) HasRisingIds c.args.bundles.now c.in_ok-message_lists.ensures.rise)
    (all_to_map (λ b. b.now) (λ b. AllByRecursion (λ e. Holds is_value e.1) b) c.args.bundles.now
    (all_weaker (λ b. HoldAll is_value b.now) (λ b. AllByRecursion (λ e. Holds is_value e.1) b.now)
    (λ b h. all_from_map (λ e. e.1) (Holds is_value) b.now (recursion_from_All (Holds is_value) (values_of b.now) h)) c.args.bundles.now
    c.in_ok-message_lists.ensures.hold)) in
    let made = ap (λ l. inboxes_of combining (groups_of l)) c.as_slice.ensures.value in
    IfOk-weaker c.inboxes_of.result _ _ (λ inboxes is. subst (AreInboxes combining bundles) (sym (is ∙ made)) are) c.inboxes_of.ensures

pub returns-in-len1 : goal.returns-in-len1
returns-in-len1 g c =
    let is_value = g.M.Plain.is_value in
    let combining = g.C.MessageCombiner.combining c.args.combiner.now in
    let laws = g.met.C.MessageCombiner g.world.𝓛 g.world.𝓜 g.world.𝓡 ((λ s x. x), (λ x. x), (λ x. x), λ x. x) in
    let bundles = c.args.bundles.now in
    let bundle = c.bundle-item.result in
    let one : length bundles ≡ 1 = omega (arith, c.in-len1.len_at_least, c.in-len1.len_below) in
    subst (AreInboxes combining (map (λ b. b.now) bundles)) (sym c.in_ok-inboxes.ensures.inboxes)
    (inboxes_of_one is_value combining (laws.lawful c.args.combiner.now) (map (λ b. b.now) bundles)
    (sym c.combines.ensures ∙ c.if-not-combines.true) bundle.now (ap (map (λ b. b.now)) (only_one bundles bundle one c.bundle-item.is))
    c.in_ok-inboxes.ensures.rise
    (all_from_map (λ e. e.1) (Holds is_value) bundle.now (recursion_from_All (Holds is_value) (values_of bundle.now) c.in_ok-inboxes.ensures.hold)))

pub returns-in-Some : goal.returns-in-Some
returns-in-Some g c =
    let bundles = map (λ b. b.now) c.args.bundles.now in
    let lists = map (λ l. l.now) c.in-Some.lists.items in
    IfOk-weaker c.inboxes_merged.result _ _ (λ inboxes merged.
    merged_inboxes lists bundles
    (subst (λ o. IfSome o (λ l. bundles ≡ map sent_message_lists (map (λ l. l.now) l.items))) c.in-Some.is c.in_ok-lists.ensures.bundles)
    (subst (λ o. IfSome o (λ l. StandByTarget (map (λ l. l.now) l.items))) c.in-Some.is c.in_ok-lists.ensures.stand)
    inboxes merged (g.C.MessageCombiner.combining c.args.combiner.now) (sym c.combines.ensures ∙ c.if-not-combines.true)) c.inboxes_merged.ensures
