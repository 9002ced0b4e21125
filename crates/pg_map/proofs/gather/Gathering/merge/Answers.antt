use Rattle.std.proofs.Common.{ap, ◌+◌, ◌++◌, ◌∙◌, subst, sym}
use Rattle.std.proofs.lemmas.List.{nil_from_length}
use Rattle.std.proofs.lemmas.Result.{IfOk-equal}
use Rattle.pg_map.specs.Entries.{ChangesRise, HasRisingIds, with_changes}
use Rattle.pg_map.proofs.Parts.{From, rises_after}
use Rattle.pg_map.proofs.Turns.{below_by, not_below_by, same_by, apart_by, pass_turn, skip_turn, put_turn, remove_turn, from_entry, from_none}
use Rattle.pg_map.proofs.gather.Gathering.merge.Goals as goal
use Rattle.pg_map.proofs.gather.Gathering.merge.Goals.{in_default-split_first-via-in-Some-2+else-eq, in_default-split_first-via-in_default-split_first}

pub loop-change-preserved-then-lt : goal.loop-change-preserved-then-lt
loop-change-preserved-then-lt g c =
    let now = c.loop-change in
    let entry = c.in-Some-split_first.entry.now in
    let at = c.in-Some-split_first.ensures.cases.0 in
    let below = below_by entry.0 c.in-Some.change.now.0 c.if-lt.ensures in
    record {
      made = pass_turn now.self _ _ _ _ _ c.in-Some.ensures.cases.0 now.invariant.changes_rise entry _ at _ c.in_ok-push-in-Some-split_first.ensures
          c.in_ok-cheap_clone-in-Some-split_first.ensures below ∙ now.invariant.made;
      entries_rise = rises_after entry _ (subst HasRisingIds at now.invariant.entries_rise);
      changes_rise = now.invariant.changes_rise;
    }

pub loop-change-preserved-then-eq : goal.loop-change-preserved-then-eq
loop-change-preserved-then-eq g c =
    let now = c.loop-change in
    let entry = c.in-Some-split_first.entry.now in
    let at = c.in-Some-split_first.ensures.cases.0 in
    let same = same_by entry.0 c.in-Some.change.now.0 c.if-eq.ensures in
    record {
      made = skip_turn now.self now.self _ _ _ _ c.in-Some.ensures.cases.0 now.invariant.changes_rise entry _ at same now.invariant.entries_rise
          ∙ now.invariant.made;
      entries_rise = rises_after entry _ (subst HasRisingIds at now.invariant.entries_rise);
      changes_rise = now.invariant.changes_rise;
    }

pub loop-change-preserved-in_ok-push-in_default-split_first : goal.loop-change-preserved-in_ok-push-in_default-split_first
loop-change-preserved-in_ok-push-in_default-split_first g c =
    let now = c.loop-change in
    let next = c.in-Some.ensures.cases.0 in
    let above : From (c.in-Some.change.now.0 + 1) now.remaining.now = elim c.in_default-split_first.branch [
      | in_default-split_first-via-in-Some-2+else-eq w ↦ from_entry now.self now.self _ _ _ _ next now.invariant.changes_rise
          w.in-Some-split_first.entry.now _ w.in-Some-split_first.ensures.cases.0 now.invariant.entries_rise
          (not_below_by _ _ w.if-lt.ensures) (apart_by _ _ w.if-eq.ensures)
      | in_default-split_first-via-in_default-split_first w ↦ from_none now.self now.self _ _ _ _ next now.invariant.changes_rise
          w.in_default-split_first.ensures.cases
    ] in
    record {
      made = put_turn now.self _ _ _ _ _ next now.invariant.changes_rise above _ _ c.in-Some-1₀.is c.in_ok-cheap_clone-in_default-split_first.ensures
          c.in_ok-push-in_default-split_first.ensures ∙ now.invariant.made;
      entries_rise = now.invariant.entries_rise;
      changes_rise = rises_after c.in-Some.change.now c.in-Some.later.now (subst ChangesRise next now.invariant.changes_rise);
    }

pub loop-change-preserved : goal.loop-change-preserved
loop-change-preserved g c =
    let now = c.loop-change in
    let next = c.in-Some.ensures.cases.0 in
    let above : From (c.in-Some.change.now.0 + 1) now.remaining.now = elim c.in_default-split_first.branch [
      | in_default-split_first-via-in-Some-2+else-eq w ↦ from_entry now.self now.self _ _ _ _ next now.invariant.changes_rise
          w.in-Some-split_first.entry.now _ w.in-Some-split_first.ensures.cases.0 now.invariant.entries_rise
          (not_below_by _ _ w.if-lt.ensures) (apart_by _ _ w.if-eq.ensures)
      | in_default-split_first-via-in_default-split_first w ↦ from_none now.self now.self _ _ _ _ next now.invariant.changes_rise
          w.in_default-split_first.ensures.cases
    ] in
    record {
      made = remove_turn now.self now.self _ _ _ _ next now.invariant.changes_rise above c.in_default-1₀.is ∙ now.invariant.made;
      entries_rise = now.invariant.entries_rise;
      changes_rise = rises_after c.in-Some.change.now c.in-Some.later.now (subst ChangesRise next now.invariant.changes_rise);
    }

pub returns : goal.returns
returns g c =
    let now = c.loop-change in
    let over = nil_from_length now.todo.now c.in_default.ensures.cases in
    IfOk-equal c.extend.result _ _ _ c.extend.ensures
    (sym (ap (λ l. now.self ++ with_changes l now.remaining.now) over) ∙ now.invariant.made)
