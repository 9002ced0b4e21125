pub mod Contributed
pub mod Registering
pub mod Shown
