use Rattle.pg_scratch.proofs.ActivePlaces.{FoundBelow}
use Rattle.pg_scratch.proofs.worklist.active_places.Given as goal

abbrev pub invariant-loop-place : goal.invariant-loop-place
invariant-loop-place g l = FoundBelow l.with_inboxes l.place l.places.items
