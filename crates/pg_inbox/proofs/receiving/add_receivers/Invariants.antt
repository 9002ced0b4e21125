use Rattle.std.proofs.Common.{◌≡◌, ℕ, ◌||◌, ◌&&◌, take}
use Rattle.std.specs.List.{AllByRecursion}
use Rattle.pg_model.specs.Superstep.{has_id}
use Rattle.pg_inbox_bundles.specs.Holding.{HoldAll}
use Rattle.pg_inbox.specs.Inboxes.{is_receiver}
use Rattle.pg_inbox.proofs.receiving.add_receivers.Given as goal

abbrev pub invariant-loop-bundle : goal.invariant-loop-bundle
invariant-loop-bundle g l = record {
  added : (q : ℕ) → has_id l.receivers.items q
      ≡ (has_id l.initial.receivers.items q || (has_id l.ids q && is_receiver (take l.bundle-index l.bundles) q));
  hold : AllByRecursion (HoldAll g.M.Plain.is_value) (take l.bundle-index l.bundles);
}
