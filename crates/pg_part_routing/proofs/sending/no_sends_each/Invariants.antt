use Rattle.std.proofs.Common.{◌≡◌, ℕ, length, [], slice_index_or}
use Rattle.pg_part_routing.proofs.sending.no_sends_each.Given as goal

abbrev pub invariant-loop-place : goal.invariant-loop-place
invariant-loop-place g l = record {
  len : length l.none.items ≡ l.place;
  none : (q : ℕ) → slice_index_or l.none.items q [] ≡ [];
}
