pub mod Command
pub mod Edits
pub mod LineFault
