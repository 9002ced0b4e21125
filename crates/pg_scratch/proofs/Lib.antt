mod ActivePlaces
mod Anyone
mod Arranging
mod Contributing
mod Delivering
mod Edges
mod Executing
pub mod LawsPlaces
mod Mapped
mod Merging
pub mod Messages
mod Passing
mod Registered
mod Runs
mod Settling
mod Stepping
mod Whole
