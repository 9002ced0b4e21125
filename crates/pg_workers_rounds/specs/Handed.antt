-- What is said of parts, of their rows, and of graphs that differ, handed on to whoever makes rounds.
pub use Rattle.pg_part.specs.Handed.{PartRows}
pub use Rattle.pg_part.specs.PartRun.{AreTouched}
pub use Rattle.pg_part.specs.Part.{HoldsShare, PartState}
