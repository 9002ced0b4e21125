use Rattle.std.proofs.Common.{◌≡◌, ℕ, ◌||◌, ◌&&◌, is_some, take}
use Rattle.pg_map.specs.Entries.{value_at}
use Rattle.pg_model.specs.Superstep.{has_id}
use Rattle.pg_inbox.proofs.receiving.add_receivers_of.Given as goal

abbrev pub invariant-loop-id : goal.invariant-loop-id
invariant-loop-id g l = record {
  same : l.cursor ≡ l.bundle;
  added : (q : ℕ) → has_id l.receivers.items q
      ≡ (has_id l.initial.receivers.items q || (has_id (take l.id-index l.ids) q && is_some (value_at q l.bundle)));
}
