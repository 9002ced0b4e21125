-- A binary search among entries by rising key finds what a look-up finds.
pub use Rattle.pg_map.proofs.Search.{searchable, lookup_found, lookup_missing}
