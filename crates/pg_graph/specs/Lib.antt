pub mod Draft
pub mod Edit
pub mod Grouped
pub mod Handed
pub mod RowChanges
pub mod RowEdit
pub mod Rows
pub use Rattle.pg_map.specs.Entries
