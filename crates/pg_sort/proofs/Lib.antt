pub mod InOrder
pub mod Neighbours
pub mod Taken
