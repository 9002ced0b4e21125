pub mod Parts
pub mod RecordChanges
pub mod Records
pub mod Rows
