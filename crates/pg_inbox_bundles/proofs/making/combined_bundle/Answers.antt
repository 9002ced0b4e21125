use Rattle.std.proofs.Common.{ap₂, ◌∙◌, subst, subst₂, sym}
use Rattle.pg_map.specs.Entries.{HasRisingIds, with_changes}
use Rattle.pg_model.proofs.LawsByNumber.{up_from}
use Rattle.pg_inbox_messages.specs.Contents.{contents_of, message_lists_of}
use Rattle.pg_inbox_messages.specs.Grouping.{groups_of}
use Rattle.pg_inbox_messages.proofs.Grouping.{rises_groups}
use Rattle.pg_inbox_bundles.specs.Sound.{IsSound, sent_message_lists}
use Rattle.pg_inbox_bundles.proofs.Bundling.{rises-values}
use Rattle.pg_inbox_bundles.proofs.Sent.{changes_given, given_all, sound_changes}
use Rattle.pg_inbox_bundles.proofs.making.combined_bundle.Goals as goal

pub from_rising-requires : goal.from_rising-requires
from_rising-requires g c =
    let combining = g.C.MessageCombiner.combining c.args.combiner.now in
    let groups = groups_of c.args.envelopes.now in
    subst HasRisingIds (sym c.in_ok-message_lists.ensures.contents)
    (changes_given (message_lists_of combining groups) (rises-values (contents_of combining) groups (rises_groups c.args.envelopes.now (up_from (λ l. l.0) c.args.envelopes.now c.requires))))

pub invariant_of-result : goal.invariant_of-result
invariant_of-result g c =
    let combining = g.C.MessageCombiner.combining c.args.combiner.now in
    let groups = groups_of c.args.envelopes.now in
    let rise = subst HasRisingIds (sym c.in_ok-message_lists.ensures.contents)
    (changes_given (message_lists_of combining groups) (rises-values (contents_of combining) groups (rises_groups c.args.envelopes.now (up_from (λ l. l.0) c.args.envelopes.now c.requires)))) in
    subst₂ (IsSound g.M.Plain.is_value) (sym c.in_ok-changes.ensures) (sym c.new.ensures)
    (sound_changes g.M.Plain.is_value c.in_ok-message_lists.message_lists.items rise c.in_ok-message_lists.ensures.hold)

pub returns : goal.returns
returns g c =
    let combining = g.C.MessageCombiner.combining c.args.combiner.now in
    let groups = groups_of c.args.envelopes.now in
    ap₂ (λ cs l. with_changes cs (sent_message_lists l)) (c.in_ok-changes.ensures ∙ c.in_ok-message_lists.ensures.contents) c.new.ensures
    ∙ given_all (message_lists_of combining groups) (rises-values (contents_of combining) groups (rises_groups c.args.envelopes.now (up_from (λ l. l.0) c.args.envelopes.now c.requires)))
