pub mod Beginning
pub mod Closing
pub mod Driving
pub mod Handed
pub mod Losing
pub mod Progress
pub mod Together
pub mod Traces
