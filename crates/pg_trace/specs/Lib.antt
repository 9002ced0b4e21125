pub mod Beginning
pub mod Handed
pub mod OfRun
pub mod Rows
pub mod Trace
