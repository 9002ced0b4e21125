use Rattle.std.proofs.Common.{◌≡◌, ◌<◌, ℕ, false}
use Rattle.pg_inbox.specs.LoggedBundle.{slot_at}
use Rattle.pg_model.specs.Superstep.{has_id}
use Rattle.pg_part_routing.specs.Routes.{AreSameTo}
use Rattle.pg_part_compute.proofs.changed.changed_at.Given as goal

abbrev pub invariant-loop-from : goal.invariant-loop-from
invariant-loop-from g l =
    (q id : ℕ) → q < l.from → has_id l.ids.items id ≡ false → AreSameTo id (slot_at l.old_logs l.superstep q l.to) (slot_at l.logs l.superstep q l.to)
