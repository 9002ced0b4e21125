pub mod Emptied
pub mod Staying
