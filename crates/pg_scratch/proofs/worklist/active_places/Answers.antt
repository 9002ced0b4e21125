use Rattle.std.proofs.Common.{ℕ, ◌+◌, Vec, Global, ap, sym, ◌∙◌, subst}
use Rattle.pg_scratch.proofs.ActivePlaces.{FoundBelow, found_none, found_more, found_same, found_all}
use Rattle.pg_scratch.proofs.worklist.active_places.Goals as goal
use Rattle.pg_scratch.proofs.worklist.active_places.Goals.{then-is_active_at+in_ok-push, else-is_active_at}

pub loop-place-init : goal.loop-place-init
loop-place-init g c = found_none c.args.with_inboxes.now c.in_ok-places.places.items c.in_ok-places.ensures.items

pub loop-place-preserved : goal.loop-place-preserved
loop-place-preserved g c =
    elim c.if-is_active_at.branch [
      | then-is_active_at+in_ok-push w ↦
          found_more c.args.with_inboxes.now c.loop-place.place c.loop-place.places.items c.loop-place.invariant
          c.if-is_active_at.places.items c.loop-place-test.true
          (ap (λ (v : Vec ℕ Global). v.items) w.places-is ∙ w.in_ok-push.ensures.items)
      | else-is_active_at w ↦
          subst (λ (v : Vec ℕ Global). FoundBelow c.args.with_inboxes.now (c.loop-place.place + 1) v.items) (sym w.places-is)
          (found_same c.args.with_inboxes.now c.loop-place.place c.loop-place.places.items c.loop-place.invariant
          c.loop-place-test.true (λ x at. sym w.if-is_active_at.false ∙ c.is_active_at.ensures x at))
    ]

pub returns-clause-lists : goal.returns-clause-lists
returns-clause-lists g c =
    found_all c.args.with_inboxes.now c.loop-place.place c.loop-place.places.items c.loop-place.invariant c.loop-place-test.false
