pub mod Contents
pub mod Grouping
pub mod Repr
pub mod ReprRef
