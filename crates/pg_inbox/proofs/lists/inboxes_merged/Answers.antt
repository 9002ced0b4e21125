use Rattle.std.proofs.Common.{◌<◌, ◌++◌, ◌∷◌, [], None, ap, map, subst, sym, ◌∙◌}
use Rattle.pg_model.proofs.LawsLists.{all_weaker}
use Rattle.pg_inbox_messages.specs.Contents.{messages}
use Rattle.pg_inbox.specs.Merged.{IsLowest, IsLowestOf, StandByTarget, all_to}
use Rattle.pg_inbox_bundles.specs.Ordered.{in_order}
use Rattle.pg_inbox.proofs.Merged.{AreMergedSoFar, fewer, items_in_all, merged_all, merged_more, merged_none}
use Rattle.pg_inbox.proofs.lists.inboxes_merged.Goals as goal

pub loop-target-init : goal.loop-target-init
loop-target-init g c = record {
  so_far = subst (AreMergedSoFar (map (λ l. l.now) c.args.lists.items) (map (λ l. l.now) c.args.lists.items)) (sym c.in_ok-inboxes.ensures)
      (merged_none (map (λ l. l.now) c.args.lists.items) c.requires);
  none = c.new-envelopes.ensures.items;
}

pub lowest_target-requires : goal.lowest_target-requires
lowest_target-requires g c =
    subst (λ l. StandByTarget (map (λ l. l.now) l)) (sym c.as_slice-in-loop-target.ensures.value)
    (all_weaker _ _ (λ l h. h.0) (map (λ l. l.now) c.loop-target.remaining.items) c.loop-target.invariant.so_far.from)

pub loop-target-smaller : goal.loop-target-smaller
loop-target-smaller g c =
    let remaining = map (λ l. l.now) c.loop-target.remaining.items in
    let lowest =
    subst (λ l. IsLowest (map (λ l. l.now) l) c.in-Some.target) c.as_slice-in-loop-target.ensures.value c.in-Some.ensures in
    subst (λ l. items_in_all l < items_in_all remaining) (sym c.in_ok-take_envelopes.ensures.lists) (fewer c.in-Some.target remaining lowest)

pub loop-target-preserved : goal.loop-target-preserved
loop-target-preserved g c =
    let all = map (λ l. l.now) c.args.lists.items in
    let remaining = map (λ l. l.now) c.loop-target.remaining.items in
    let target = c.in-Some.target in
    let lowest = subst (λ l. IsLowest (map (λ l. l.now) l) target) c.as_slice-in-loop-target.ensures.value c.in-Some.ensures in
    let envelopes = c.in_ok-take_envelopes.ensures.envelopes ∙ ap (λ l. l ++ all_to target remaining) c.loop-target.invariant.none in
    let inboxes =
    c.in_ok-inboxes-2.ensures.inboxes ∙ ap (λ l. c.loop-target.inboxes ++ (target, messages (in_order l)) ∷ []) envelopes in
    record {
      so_far = subst (λ i. AreMergedSoFar all (map (λ l. l.now) c.take_envelopes.new.lists.items) i) (sym inboxes)
          (subst (λ l. AreMergedSoFar all l (c.loop-target.inboxes ++ (target, messages (in_order (all_to target remaining))) ∷ []))
          (sym c.in_ok-take_envelopes.ensures.lists) (merged_more all remaining c.loop-target.inboxes target c.loop-target.invariant.so_far lowest));
      none = c.in_ok-inboxes-2.ensures.none;
    }

pub returns : goal.returns
returns g c =
    merged_all (map (λ l. l.now) c.args.lists.items) (map (λ l. l.now) c.loop-target.remaining.items) c.loop-target.inboxes
    c.loop-target.invariant.so_far
    (subst (λ l. IsLowestOf (map (λ l. l.now) l) None) c.as_slice-in-loop-target.ensures.value
    (subst (IsLowestOf (map (λ l. l.now) c.as_slice-in-loop-target.result.now)) c.in_default.is c.lowest_target.ensures))
