use Rattle.std.proofs.Common.{◌++◌, ap, map, subst, sym, ◌∙◌}
use Rattle.std.specs.List.{AllByRecursion}
use Rattle.std.proofs.lemmas.List.{append-nil, take_all}
use Rattle.pg_inbox_bundles.specs.MessageEdits.{added_by, inserted}
use Rattle.pg_inbox_bundles.proofs.ToTarget.{gathered_parts}
use Rattle.pg_inbox_bundles.proofs.patching.add_envelopes.Goals as goal
use Rattle.pg_inbox_bundles.proofs.patching.add_envelopes.Goals.{in-Added+in_ok-add_envelope, in_default}

pub loop-message_edit-preserved : goal.loop-message_edit-preserved
loop-message_edit-preserved g c =
    let before = c.loop-message_edit.after.items in
    elim c.match-message_edit.branch [
      | in-Added+in_ok-add_envelope w ↦ record {
        items = gathered_parts (λ m. m.1) added_by c.args.after.now.items c.args.message_edits.now c.loop-message_edit.message_edit-index c.loop-message_edit-test.true c.loop-message_edit-item.is
            c.loop-message_edit.invariant.items
            (ap (λ v. v.items) w.after-is ∙ w.in_ok-add_envelope.ensures.items ∙ ap (λ m. before ++ added_by m) (sym w.in-Added.is));
        values = subst (λ v. AllByRecursion (λ l. g.M.Plain.is_value l.1) v.items) (sym w.after-is) w.in_ok-add_envelope.ensures.values;
      }
      | in_default w ↦ record {
        items = gathered_parts (λ m. m.1) added_by c.args.after.now.items c.args.message_edits.now c.loop-message_edit.message_edit-index c.loop-message_edit-test.true c.loop-message_edit-item.is
            c.loop-message_edit.invariant.items
            (ap (λ v. v.items) w.after-is ∙ sym (append-nil before) ∙ ap (λ m. before ++ added_by m) (sym w.in_default.is));
        values = subst (λ v. AllByRecursion (λ l. g.M.Plain.is_value l.1) v.items) (sym w.after-is) c.loop-message_edit.invariant.values;
      }
    ]

pub add_envelope-requires-after_bounds : goal.add_envelope-requires-after_bounds
add_envelope-requires-after_bounds g c κs within = c.loop-message_edit.invariant.values

pub returns-clause-items : goal.returns-clause-items
returns-clause-items g c =
    c.loop-message_edit.invariant.items
    ∙ ap (λ l. c.args.after.now.items ++ inserted (map (λ m. m.1) l)) (take_all c.loop-message_edit.message_edit-index c.args.message_edits.now c.loop-message_edit-test.false)

pub returns-clause-values : goal.returns-clause-values
returns-clause-values g c = c.loop-message_edit.invariant.values
