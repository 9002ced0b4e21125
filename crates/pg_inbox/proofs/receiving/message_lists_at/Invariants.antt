use Rattle.std.proofs.Common.{◌≡◌, map, take}
use Rattle.std.specs.List.{AllByRecursion}
use Rattle.pg_map.specs.Entries.{value_at}
use Rattle.pg_inbox_bundles.specs.Holding.{HoldsAt}
use Rattle.pg_inbox.specs.Inboxes.{contents_to}
use Rattle.pg_inbox.proofs.receiving.message_lists_at.Given as goal

abbrev pub invariant-loop-bundle : goal.invariant-loop-bundle
invariant-loop-bundle g l = record {
  items : map (λ p. p.1) l.message_lists.items ≡ contents_to l.id (map (λ b. b.now) (take l.bundle-index l.bundles));
  hold : AllByRecursion (λ b. HoldsAt g.M.Plain.is_value (value_at l.id b.now)) (take l.bundle-index l.bundles);
}
