-- Lemmas of records and their changes, handed on to whoever makes supersteps.
pub use Rattle.pg_trace_records.proofs.Changed.{each_some, given_some, some_rise}
pub use Rattle.pg_trace_records.proofs.Parting.{length_in, one_added, within_added}
