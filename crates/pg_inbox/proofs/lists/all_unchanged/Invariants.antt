use Rattle.std.proofs.Common.{◌≡◌, map, take}
use Rattle.pg_inbox.specs.Merged.{StandByTarget}
use Rattle.pg_inbox_bundles.specs.Sound.{sent_message_lists}
use Rattle.pg_inbox.proofs.lists.all_unchanged.Given as goal

abbrev pub invariant-loop-bundle : goal.invariant-loop-bundle
invariant-loop-bundle g l = record {
  bundles : map (λ b. b.now) (take l.bundle-index l.bundles) ≡ map sent_message_lists (map (λ l. l.now) l.lists.items);
  stand : StandByTarget (map (λ l. l.now) l.lists.items);
}
