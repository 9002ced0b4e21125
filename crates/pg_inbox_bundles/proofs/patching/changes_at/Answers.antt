use Rattle.std.proofs.Common.{◌≡◌, [], ◌∷◌, ◌++◌, ap, append_assoc, map, refl, rules, subst, subst₂, sym, ◌∙◌}
use Rattle.std.specs.List.{AllByRecursion}
use Rattle.std.specs.Option.{option_copied}
use Rattle.pg_map.specs.Entries.{value_at}
use Rattle.pg_model.proofs.LawsLists.{all-append}
use Rattle.pg_inbox_bundles.specs.Holding.{HoldsAt}
use Rattle.pg_inbox_bundles.specs.MessageEdits.{changes_of, edited_in}
use Rattle.pg_inbox_messages.specs.Grouping.{groups_of}
use Rattle.pg_inbox_bundles.proofs.Replacing.{AreFound, found-more, found-none, found_all}
use Rattle.pg_inbox_bundles.proofs.patching.changes_at.Goals as goal

pub loop-target-init : goal.loop-target-init
loop-target-init g c =
    let combining = g.C.MessageCombiner.combining c.args.combiner.now in
    record {
      same = c.cursor-cursor.ensures.value;
      items = ap (λ l. l ++ changes_of combining c.args.old.now (groups_of c.args.message_edits.now)) c.in_ok-changes.ensures.items;
      found = subst₂ (AreFound c.args.old.now) (sym c.in_ok-changes.ensures.items) (sym c.in_ok-changed.ensures.items) (found-none c.args.old.now);
      hold = subst (AllByRecursion (λ x. HoldsAt g.M.Plain.is_value x.1)) (sym c.in_ok-changes.ensures.items) tt;
    }

pub loop-target-preserved : goal.loop-target-preserved
loop-target-preserved g c =
    let combining = g.C.MessageCombiner.combining c.args.combiner.now in
    let old = c.args.old.now in
    let now = c.loop-target in
    let target = c.in-Some.target in
    let change = c.in_ok-change.change in
    let message_edits = map (λ m. m.1) c.in-Some.here.now in
    let pushed : c.push.new.self.items ≡ now.changes.items ++ (target, change) ∷ [] = search rules in
    let at : option_copied c.as_ref-seen.result ≡ value_at target old = search (rules, ap (value_at target) now.invariant.same) in
    record {
      same = c.message_list-before.ensures.same ∙ now.invariant.same;
      items = search (rules, ap (λ o. edited_in combining o message_edits) at, append_assoc);
      found = found-more old now.changes.items c.push.new.self.items now.changed.items c.note_if_changed.new.changed.items now.invariant.found
          pushed at refl c.in_ok-note_if_changed.ensures (search rules);
      hold = subst (AllByRecursion (λ x. HoldsAt g.M.Plain.is_value x.1)) (sym pushed)
          (all-append (λ x. HoldsAt g.M.Plain.is_value x.1) now.changes.items ((target, change) ∷ []) now.invariant.hold (c.in_ok-change.ensures.holds, tt));
    }

pub returns-clause-changed : goal.returns-clause-changed
returns-clause-changed g c rise =
    found_all c.args.old.now c.loop-target.changes.items c.loop-target.changed.items
    c.cursor-cursor.ensures.rise c.loop-target.invariant.found rise
