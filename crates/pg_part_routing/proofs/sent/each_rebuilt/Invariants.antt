use Rattle.std.proofs.Common.{◌≡◌, ℕ, ◌<◌, length, [], slice_index_or}
use Rattle.std.specs.List.{slice_get}
use Rattle.pg_inbox.specs.LoggedBundle.{slot_at}
use Rattle.pg_part_routing.specs.Sending.{IsRebuilt}
use Rattle.pg_part_routing.proofs.sent.each_rebuilt.Given as goal

abbrev pub invariant-loop-to : goal.invariant-loop-to
invariant-loop-to g l = record {
  len : length l.bundles.items ≡ l.to;
  bundles : (q : ℕ) → q < l.to → IsRebuilt (g.C.MessageCombiner.combining l.combiner) (slice_index_or l.retracted q []) (slice_index_or l.added q [])
      (slot_at l.logs l.superstep l.from q) (slice_get l.bundles.items q);
}
