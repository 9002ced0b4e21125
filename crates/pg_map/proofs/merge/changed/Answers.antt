use Rattle.std.proofs.Common.{ap, ◌++◌, ◌∙◌, subst, sym}
use Rattle.std.proofs.lemmas.List.{nil_from_length}
use Rattle.std.proofs.lemmas.Result.{IfOk-weaker}
use Rattle.pg_map.specs.Chunks.{AreGroups, all_of, grouped}
use Rattle.pg_map.specs.Entries.{ChangesRise, HasRisingIds, with_changes}
use Rattle.pg_map.proofs.InParts.{part_turn}
use Rattle.pg_map.proofs.Parts.{none_rise, rises_left, rises_right}
use Rattle.pg_map.proofs.merge.changed.Goals as goal

pub merge_group-requires-clause-changes_rise : goal.merge_group-requires-clause-changes_rise
merge_group-requires-clause-changes_rise g c =
    rises_left c.split_at.result.0.now c.split_at.result.1.now (subst ChangesRise c.split_at.ensures.by_index.0 c.loop-group.invariant.changes_rise)

pub merge_group-requires-clause-entries_rise : goal.merge_group-requires-clause-entries_rise
merge_group-requires-clause-entries_rise g c =
    rises_left (grouped c.in-Some.group.now) (all_of c.in-Some.others.now)
    (subst (λ l. HasRisingIds (all_of l)) c.in-Some.ensures.cases.0 c.loop-group.invariant.entries_rise)

pub loop-group-preserved : goal.loop-group-preserved
loop-group-preserved g c =
    let now = c.loop-group in
    let at = c.in-Some.ensures.cases.0 in
    let here = c.split_at.result.0.now in
    let later = c.split_at.result.1.now in
    let parts = c.split_at.ensures.by_index.0 in
    let groups = subst AreGroups at now.invariant.groups in
    record {
      made = part_turn grouped now.gathering _ now.remaining.now c.in-Some.others.now c.in-Some.group.now now.todo.now here later c.cut_of.result at parts
          c.split_at.ensures.front c.split_at.ensures.back now.invariant.groups.0 now.invariant.entries_rise c.cut_of.ensures.cut c.in_ok-merge_group.ensures
          ∙ now.invariant.made;
      groups = (groups.0.1, groups.1.1);
      entries_rise = rises_right (grouped c.in-Some.group.now) (all_of c.in-Some.others.now)
          (subst (λ l. HasRisingIds (all_of l)) at now.invariant.entries_rise);
      changes_rise = rises_right here later (subst ChangesRise parts now.invariant.changes_rise);
    }

pub merge-requires-clause-entries_rise : goal.merge-requires-clause-entries_rise
merge-requires-clause-entries_rise g c = none_rise c.as_slice.result.now (c.as_slice.ensures.value ∙ c.new-none.ensures.items)

pub returns-clause-entries : goal.returns-clause-entries
returns-clause-entries g c =
    let now = c.loop-group in
    let none = c.as_slice.ensures.value ∙ c.new-none.ensures.items in
    let over = nil_from_length now.remaining.now c.in_default.ensures.cases in
    IfOk-weaker c.finish.result _ _
    (λ made is. is ∙ c.in_ok-merge.ensures
    ∙ ap (λ l. now.gathering ++ with_changes now.todo.now l) (none ∙ sym (ap all_of over))
    ∙ now.invariant.made)
    c.finish.ensures.entries
