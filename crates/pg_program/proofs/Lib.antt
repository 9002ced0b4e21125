mod Appended
mod Cleared
pub mod InTurn
