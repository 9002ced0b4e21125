pub mod Diverged
pub mod Executor
pub mod Found
pub mod Lists
pub mod VertexCountsDeltas
pub mod VertexPairs
