use Rattle.std.proofs.Common.{◌≡◌, ◌++◌}
use Rattle.std.specs.List.Sorted.{IsNonDecreasingBy}
use Rattle.pg_map.specs.Entries.{ChangesRise}
use Rattle.pg_inbox_bundles.specs.Sound.{message_lists_with}
use Rattle.pg_inbox_bundles.proofs.bundles.Bundle.message_lists.Given as goal

abbrev pub invariant-loop-id : goal.invariant-loop-id
invariant-loop-id g l = record {
  envelopes_rise : IsNonDecreasingBy (λ p. p.0) l.remaining;
  changes_rise : ChangesRise l.id-iterator;
  message_lists : l.message_lists.items ++ message_lists_with l.id-iterator l.remaining ≡ l.self;
}
