use Rattle.std.proofs.Common.{◌≡◌, take}
use Rattle.std.specs.List.{AllByRecursion, flat_map}
use Rattle.pg_map.specs.Entries.{HasRisingIds}
use Rattle.pg_inbox_bundles.specs.Holding.{HoldAll}
use Rattle.pg_inbox.proofs.receivers.all_message_lists.Given as goal

abbrev pub invariant-loop-bundle : goal.invariant-loop-bundle
invariant-loop-bundle g l = record {
  items : l.all.items ≡ flat_map (λ b. b.now) (take l.bundle-index l.bundles);
  rise : AllByRecursion (λ b. HasRisingIds b.now) (take l.bundle-index l.bundles);
  hold : AllByRecursion (λ b. HoldAll g.M.Plain.is_value b.now) (take l.bundle-index l.bundles);
}
