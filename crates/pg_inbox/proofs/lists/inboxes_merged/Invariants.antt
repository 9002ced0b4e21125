use Rattle.std.proofs.Common.{◌≡◌, [], map}
use Rattle.pg_inbox.proofs.Merged.{AreMergedSoFar, items_in_all}
use Rattle.pg_inbox.proofs.lists.inboxes_merged.Given as goal

abbrev pub invariant-loop-target : goal.invariant-loop-target
invariant-loop-target g l = record {
  so_far : AreMergedSoFar (map (λ l. l.now) l.fn.lists.items) (map (λ l. l.now) l.remaining.items) l.inboxes;
  none : l.envelopes.items ≡ [];
}

abbrev pub decreases-loop-target : goal.decreases-loop-target
decreases-loop-target g l = items_in_all (map (λ l. l.now) l.remaining.items)
