use Rattle.std.proofs.Common.{◌≤◌, false, length}
use Rattle.pg_checkpoint.specs.Shelf.{IsCounted}
use Rattle.pg_workers.specs.Meaning.{meaning}
use Rattle.pg_workers.specs.Running.{Keeps}
use Rattle.pg_workers.proofs.coordinator.Coordinator.drive.Given as goal

-- the run has gone on, no more workers fell than may, and the shelf's device hasn't failed
abbrev pub invariant-loop : goal.invariant-loop
invariant-loop g l =
    let own = meaning g.P.Computation.program g.C.MessageCombiner.combining g.M.MasterCompute.master g.P.Value.PartialEq.eq g.P.Message.PartialEq.eq
    g.P.Value.Plain.is_value g.P.Value.Coded.coding g.P.Message.Plain.is_value g.P.Message.Coded.coding in
    record {
      keeps : Keeps own (g.F.Fate.fated l.fate) (g.S.Shelf.state l.fn.shelf) l.fn.self (g.S.Shelf.state l.shelf) l.self;
      few : length l.self.losses ≤ l.self.core.limits.max_losses;
      counted : IsCounted (g.S.Shelf.state l.fn.shelf) false (g.S.Shelf.state l.shelf);
    }
