use Rattle.std.proofs.Common.{◌≡◌, length, take}
use Rattle.pg_inbox_bundles.proofs.changing.are_same_envelopes.Given as goal

abbrev pub invariant-loop-place : goal.invariant-loop-place
invariant-loop-place g l = record {
  so_far : take l.place l.old.envelopes ≡ take l.place l.new.envelopes;
  lengths : length l.old.envelopes ≡ length l.new.envelopes;
}
