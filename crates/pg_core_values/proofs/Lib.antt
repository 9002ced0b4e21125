pub mod Ends
pub mod ReadValues
