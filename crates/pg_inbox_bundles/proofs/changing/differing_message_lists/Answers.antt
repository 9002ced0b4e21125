use Rattle.pg_inbox_bundles.proofs.Merging.{counted, fewer_left, found_all, found_more, held_from, lowest_from, over}
use Rattle.pg_inbox_bundles.proofs.changing.differing_message_lists.Goals as goal

pub message_list_at-before-requires-clause-from : goal.message_list_at-before-requires-clause-from
message_list_at-before-requires-clause-from g c κs within =
    (lowest_from c.loop-target.old_place c.loop-target.new_place c.args.old.now c.args.new.now c.requires.old_rise c.requires.new_rise
    c.target_at.ensures c.target_at-in-loop-target.ensures c.lower.ensures c.in-Some.is).old_from

pub message_list_at-after-requires-clause-from : goal.message_list_at-after-requires-clause-from
message_list_at-after-requires-clause-from g c κs within =
    (lowest_from c.loop-target.old_place c.loop-target.new_place c.args.old.now c.args.new.now c.requires.old_rise c.requires.new_rise
    c.target_at.ensures c.target_at-in-loop-target.ensures c.lower.ensures c.in-Some.is).new_from

pub add_if_changed-requires-clause-old : goal.add_if_changed-requires-clause-old
add_if_changed-requires-clause-old g c κs within =
    held_from g.M.Plain.is_value c.in-Some.target c.loop-target.old_place c.args.old.now c.requires.old_hold c.message_list_at-before.ensures

pub add_if_changed-requires-clause-new : goal.add_if_changed-requires-clause-new
add_if_changed-requires-clause-new g c κs within =
    held_from g.M.Plain.is_value c.in-Some.target c.loop-target.new_place c.args.new.now c.requires.new_hold c.message_list_at-after.ensures

pub loop-target-smaller : goal.loop-target-smaller
loop-target-smaller g c =
    let now = c.loop-target in
    fewer_left now.old_place now.new_place c.args.old.now c.args.new.now c.in-Some.target c.from-old_place.result c.from-new_place.result
    (lowest_from now.old_place now.new_place c.args.old.now c.args.new.now c.requires.old_rise c.requires.new_rise
    c.target_at.ensures c.target_at-in-loop-target.ensures c.lower.ensures c.in-Some.is)
    (counted (λ p. p.now) c.message_list_at-before.result c.message_list_at-before.ensures c.is_some.ensures c.from-old_place.ensures)
    (counted (λ p. p.now) c.message_list_at-after.result c.message_list_at-after.ensures c.is_some-in-Some.ensures c.from-new_place.ensures)

pub loop-target-preserved : goal.loop-target-preserved
loop-target-preserved g c =
    let now = c.loop-target in
    found_more c.args.old.now c.args.new.now now.old_place now.new_place c.in-Some.target c.from-old_place.result c.from-new_place.result
    now.changed.items c.add_if_changed.new.ids.items c.requires.old_rise c.requires.new_rise now.invariant
    (lowest_from now.old_place now.new_place c.args.old.now c.args.new.now c.requires.old_rise c.requires.new_rise
    c.target_at.ensures c.target_at-in-loop-target.ensures c.lower.ensures c.in-Some.is)
    c.message_list_at-before.ensures c.message_list_at-after.ensures
    (counted (λ p. p.now) c.message_list_at-before.result c.message_list_at-before.ensures c.is_some.ensures c.from-old_place.ensures)
    (counted (λ p. p.now) c.message_list_at-after.result c.message_list_at-after.ensures c.is_some-in-Some.ensures c.from-new_place.ensures)
    c.in_ok-add_if_changed.ensures

pub returns : goal.returns
returns g c =
    let now = c.loop-target in
    found_all c.args.old.now c.args.new.now now.old_place now.new_place now.changed.items now.invariant
    (over now.old_place now.new_place c.args.old.now c.args.new.now c.target_at.ensures c.target_at-in-loop-target.ensures c.lower.ensures c.in_default.is)
