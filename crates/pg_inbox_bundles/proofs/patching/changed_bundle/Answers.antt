use Rattle.std.proofs.Common.{◌∙◌, ap, ap₂, map, subst, subst₂, sym}
use Rattle.std.specs.List.Sorted.{IsNonDecreasingBy}
use Rattle.pg_map.specs.Entries.{ChangesRise, with_changes}
use Rattle.pg_inbox_bundles.specs.Shared.{envelopes_of}
use Rattle.pg_inbox_bundles.specs.Sound.{IsSound, needed, message_lists_with}
use Rattle.pg_inbox_bundles.proofs.Sent.{changed_over, needed_rise, sound_more}
use Rattle.pg_inbox_bundles.proofs.patching.changed_bundle.Goals as goal

pub each_given-requires-after_bounds : goal.each_given-requires-after_bounds
each_given-requires-after_bounds g c κs within = subst (IsNonDecreasingBy (λ l. l.0)) (sym c.as_slice.ensures) c.old.invariant.envelopes_rise

pub change-requires : goal.change-requires
change-requires g c =
    let more = c.args.changes.items in
    let envelopes = envelopes_of c.old.inside.envelopes in
    subst ChangesRise (sym (c.as_slice-2.ensures.value ∙ c.in_ok-given.ensures ∙ ap (λ l. map (needed l) more) c.as_slice.ensures))
    (needed_rise envelopes c.old.invariant.envelopes_rise more c.requires.rise)

pub invariant_of-result : goal.invariant_of-result
invariant_of-result g c =
    let more = c.args.changes.items in
    let given = c.as_slice-2.ensures.value ∙ c.in_ok-given.ensures ∙ ap (λ l. map (needed l) more) c.as_slice.ensures in
    let made = c.in_ok-change.ensures.ok ∙ ap₂ with_changes given c.in_ok-changes.ensures in
    subst₂ (IsSound g.M.Plain.is_value) (sym made) (sym c.in_ok-envelopes.ensures)
    (sound_more g.M.Plain.is_value more c.old.inside.changes (envelopes_of c.old.inside.envelopes) c.old.invariant c.requires.rise c.requires.hold)

pub returns : goal.returns
returns g c =
    let more = c.args.changes.items in
    let envelopes = envelopes_of c.old.inside.envelopes in
    let given = c.as_slice-2.ensures.value ∙ c.in_ok-given.ensures ∙ ap (λ l. map (needed l) more) c.as_slice.ensures in
    let made = c.in_ok-change.ensures.ok ∙ ap₂ with_changes given c.in_ok-changes.ensures in
    ap₂ message_lists_with made c.in_ok-envelopes.ensures
    ∙ changed_over envelopes c.old.invariant.envelopes_rise more c.requires.rise c.old.inside.changes c.old.invariant.changes_rise
    ∙ ap (with_changes more) c.old.view_is
