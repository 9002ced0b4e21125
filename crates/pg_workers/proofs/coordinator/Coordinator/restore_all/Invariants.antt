use Rattle.std.proofs.Common.{◌≡◌, ℕ, Bool, false}
use Rattle.pg_checkpoint.specs.Shelf.{IsCounted}
use Rattle.pg_core.specs.Progress.{Progress}
use Rattle.pg_workers.specs.Losses.{Fated}
use Rattle.pg_workers.specs.Meaning.{meaning}
use Rattle.pg_workers.specs.Running.{IsRunning}
use Rattle.pg_workers.proofs.coordinator.Coordinator.restore_all.Given as goal

-- the run has gone on, and the shelf's device hasn't failed
abbrev pub invariant-loop-number : goal.invariant-loop-number
invariant-loop-number g l =
    let own = meaning g.P.Computation.program g.C.MessageCombiner.combining g.M.MasterCompute.master g.P.Value.PartialEq.eq g.P.Message.PartialEq.eq
    g.P.Value.Plain.is_value g.P.Value.Coded.coding g.P.Message.Plain.is_value g.P.Message.Coded.coding in
    record {
      keeps : (fated : Fated) (first : Progress _ _ _ _ _) → IsRunning own fated first (g.S.Shelf.state l.fn.shelf) l.fn.self
          → IsRunning own fated first (g.S.Shelf.state l.shelf) l.self;
      limits : l.self.core.limits ≡ l.fn.self.core.limits;
      losses : l.self.losses ≡ l.fn.self.losses;
      counted : IsCounted (g.S.Shelf.state l.fn.shelf) false (g.S.Shelf.state l.shelf);
    }
