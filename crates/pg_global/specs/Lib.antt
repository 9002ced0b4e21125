pub mod AnyAggregator
pub mod Bits
pub mod Combiner
pub mod Master
pub mod Monoids
pub mod Names
pub mod Registry
