use Rattle.std.proofs.Common.{◌≡◌, ℕ, Bool, length}
use Rattle.pg_checkpoint.specs.Shelf.{ShelfState}
use Rattle.pg_core.specs.Progress.{Progress}
use Rattle.pg_workers.specs.Losses.{Fated}
use Rattle.pg_workers.specs.Meaning.{meaning}
use Rattle.pg_workers.specs.Recovering.{LosesOn}
use Rattle.pg_workers.proofs.coordinator.Coordinator.lose_all.Given as goal

-- the losses so far were recorded, and the others are still to be
abbrev pub invariant-loop-loss : goal.invariant-loop-loss
invariant-loop-loss g l =
    let own = meaning g.P.Computation.program g.C.MessageCombiner.combining g.M.MasterCompute.master g.P.Value.PartialEq.eq g.P.Message.PartialEq.eq
    g.P.Value.Plain.is_value g.P.Value.Coded.coding g.P.Message.Plain.is_value g.P.Message.Coded.coding in
    record {
      limits : l.self.core.limits ≡ l.fn.self.core.limits;
      keeps : (fated : Fated) (first : Progress _ _ _ _ _) (shelf : ShelfState)
          → LosesOn own fated first shelf (length l.fn.self.losses) l.fn.self l.fn.fallen.items
          → LosesOn own fated first shelf (length l.fn.self.losses) l.self l.loss-iterator.rest.items;
    }
