-- The executions of a superstep, between two of them.
use Rattle.std.specs.Prelude.{◌≡◌, ℕ, List, Option}
use Rattle.pg_model.specs.declared.record.Record.{Record}
use Rattle.pg_model.specs.declared.view.Declared.{Declared}
use Rattle.pg_trace.specs.Handed.{AreWithin, changes_in}
use Rattle.pg_part_compute.specs.declared.execution.Executor.{Executor}

module _ {V M : Type 0} where
  -- its context writes what a program declares, and each execution has its part of what was sent and contributed there
  pub record IsReady (declared : Declared) (executor : Executor V M) : Type 0 where
    pub writes : executor.cx.writes ≡ declared.writes
    pub within : AreWithin executor.cx.sent executor.cx.contributed executor.produced.items

  -- what the executions make of the records of vertices
  abbrev pub changes_of : Executor V M → List (ℕ × Option (Record V M))
  changes_of executor = changes_in executor.cx.sent executor.cx.contributed executor.produced.items
