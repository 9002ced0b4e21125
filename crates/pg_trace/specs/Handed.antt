-- What is said of records and their changes, handed on to whoever makes supersteps.
pub use Rattle.pg_trace_index.specs.Records.{last_record}
pub use Rattle.pg_trace_records.specs.Parts.{AreWithin, changes_in, record_in}
pub use Rattle.pg_trace_records.specs.RecordChanges.{messages_by}
pub use Rattle.pg_trace_records.specs.Records.{contributions_of, unhalted_after}
pub use Rattle.pg_trace_records.specs.declared.changes.Executed.{Executed}
pub use Rattle.pg_trace_records.specs.declared.changes.Extent.{Extent}
