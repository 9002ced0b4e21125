-- Lemmas of the rows of a partition, handed on to whoever runs partitions.
pub use Rattle.pg_part_routing.proofs.Beginning.{begun_holds}
pub use Rattle.pg_part_routing.proofs.Listing.{flat_map-push, flat_map-range_from}
