pub mod Changed
pub mod Parting
pub mod Senders
