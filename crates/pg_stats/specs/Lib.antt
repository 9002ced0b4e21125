pub mod Contributed
pub mod GlobalStats
pub mod MessageCounts
pub mod Stats
pub mod VertexCounts
