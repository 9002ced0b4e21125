pub mod Alike
pub mod Handed
pub mod Inboxes
pub mod LoggedBundle
pub mod Merged
pub mod Parts
pub mod SentRow
pub mod SparseVec
