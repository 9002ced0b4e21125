-- What follows of a core that has been opened, handed on to whoever drives one.
pub use Rattle.pg_core.proofs.Opened.{job_as_opened}
