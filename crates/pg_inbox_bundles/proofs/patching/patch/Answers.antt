use Rattle.std.proofs.Common.{ap, ◌∙◌, subst, subst₂, sym}
use Rattle.pg_map.specs.Entries.{ChangesRise, with_changes}
use Rattle.pg_inbox_messages.specs.Grouping.{groups_of}
use Rattle.pg_inbox_bundles.specs.Changed.{AreChanged}
use Rattle.pg_inbox_bundles.specs.MessageEdits.{changes_of}
use Rattle.pg_inbox_bundles.proofs.Replacing.{changes_rise, patched}
use Rattle.pg_inbox_bundles.proofs.patching.patch.Goals as goal

pub edited_bundle-requires-clause-rise : goal.edited_bundle-requires-clause-rise
edited_bundle-requires-clause-rise g c κs within =
    let combining = g.C.MessageCombiner.combining c.args.combiner.now in
    let old = c.args.old.now in
    let are = c.in_ok-after.ensures.items ∙ ap (λ l. changes_of combining old (groups_of l)) c.as_slice.ensures.value in
    subst ChangesRise (sym are) (changes_rise combining old _ c.in_ok-message_edits.ensures.rise)

pub returns-clause-bundle : goal.returns-clause-bundle
returns-clause-bundle g c =
    let combining = g.C.MessageCombiner.combining c.args.combiner.now in
    let old = c.args.old.now in
    let groups = groups_of c.in_ok-message_edits.message_edits.items in
    let are = c.in_ok-after.ensures.items ∙ ap (λ l. changes_of combining old (groups_of l)) c.as_slice.ensures.value in
    patched combining c.args.retracted.now c.args.added.now old groups
    c.in_ok-message_edits.ensures c.in_ok-bundle.bundle
    (c.in_ok-bundle.ensures ∙ ap (λ l. with_changes l old) are)

pub edited_bundle-requires-clause-hold : goal.edited_bundle-requires-clause-hold
edited_bundle-requires-clause-hold g c κs within =
    c.in_ok-after.ensures.hold

pub returns-clause-changed : goal.returns-clause-changed
returns-clause-changed g c =
    let combining = g.C.MessageCombiner.combining c.args.combiner.now in
    let old = c.args.old.now in
    let are = c.in_ok-after.ensures.items ∙ ap (λ l. changes_of combining old (groups_of l)) c.as_slice.ensures.value in
    subst₂ (AreChanged old)
    (sym c.in_ok-bundle.ensures) (sym c.from_vec.ensures)
    (c.in_ok-after.ensures.changed (subst ChangesRise (sym are) (changes_rise combining old _ c.in_ok-message_edits.ensures.rise)))
