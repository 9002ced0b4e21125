-- What is said of the cores and the shelves that a run is driven on, handed on to whoever drives one.
pub use Rattle.pg_checkpoint.specs.Mem.{mem_state}
pub use Rattle.pg_checkpoint.specs.Shelf.{IsCounted}
pub use Rattle.pg_core.specs.Progress.{IsOpened, IsRight, Progress, job_of_core}
pub use Rattle.pg_core.specs.Traces.{IsRetainedBy, Traces}
pub use Rattle.pg_workers_rounds.specs.Handed.{AreTouched}
pub use Rattle.pg_core.specs.Handed.{Limits, Event}
