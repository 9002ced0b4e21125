use Rattle.std.proofs.Common.{◌≡◌, ℕ, ◌<◌, length, [], slice_index_or}
use Rattle.std.specs.List.{slice_get}
use Rattle.pg_part_routing.specs.Sending.{IsFresh}
use Rattle.pg_part_routing.proofs.sent.each_fresh.Given as goal

abbrev pub invariant-loop-sends : goal.invariant-loop-sends
invariant-loop-sends g l = record {
  len : length l.bundles.items ≡ l.sends-index;
  bundles : (q : ℕ) → q < l.sends-index
      → IsFresh (g.C.MessageCombiner.combining l.combiner) (slice_index_or l.parts q []) (slice_get l.bundles.items q);
}
