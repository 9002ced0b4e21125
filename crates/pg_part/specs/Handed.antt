-- What is said of the rows of a partition, and of what it sends, handed on to whoever runs partitions.
pub use Rattle.pg_part_routing.specs.Routes.{HasMessages, TellsAt, TellsFrom, bundle_in, bundle_sent}
pub use Rattle.pg_part_routing.specs.Sending.{IsFresh, items_to, sends_by_records}
pub use Rattle.pg_part_routing.specs.Starting.{PartRows, first_states}
