pub mod Handed
pub mod Round
pub mod Work
pub mod Outcomes
