pub mod Handed
pub mod Meaning
pub mod Losses
pub mod Driven
pub mod Refused
pub mod Running
pub mod Rounds
pub mod Recovering
