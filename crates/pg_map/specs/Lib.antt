pub mod Chunks
pub mod Entries
