use Rattle.std.proofs.Common.{false, ◌∙◌}
use Rattle.pg_workers.proofs.Going.{counted_then}
use Rattle.pg_workers.proofs.coordinator.Coordinator.restore_all.Goals as goal

pub loop-number-preserved : goal.loop-number-preserved
loop-number-preserved g c =
    let was = c.loop-number.invariant in
    record {
      keeps = λ fated first runs. c.in_ok-restore_at.ensures.keeps fated first (was.keeps fated first runs);
      limits = c.in_ok-restore_at.ensures.limits ∙ was.limits;
      losses = c.in_ok-restore_at.ensures.losses ∙ was.losses;
      counted = counted_then _ _ _ false was.counted c.in_ok-restore_at.ensures.counted;
    }
