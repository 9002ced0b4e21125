pub mod Chunks
pub mod Forms
pub mod History
pub mod Listing
pub mod LogEntry
pub mod Occurrences
pub mod Records
pub mod Rows
