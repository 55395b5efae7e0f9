pub mod Json
pub mod Lanes
pub mod Moments
pub mod Pools
pub mod Tallies
