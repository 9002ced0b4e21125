pub mod Routes
pub mod Sending
pub mod Starting
