-- Why a refresh is refused, who fell, the numbers of a run, and what is published, handed on from below.
pub use Rattle.logbook.specs.Pages.{Book}
pub use Rattle.pg_publish.specs.Answers.{Answered, HaveRisingIds, aggregate_of, value_of}
pub use Rattle.pg_publish.specs.History.{Beginning, last_of}
pub use Rattle.pg_workers.specs.Handed.{IsCounted, Limits, mem_state}
pub use Rattle.pg_workers.specs.Refused.{MayRefuse, is_failure, refusal_number}
pub use Rattle.pg_workers.specs.declared.counts.Loss.{Loss}
pub use Rattle.pg_workers.specs.declared.fault.RefreshFault.{RefreshFault}
