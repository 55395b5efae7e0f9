pub mod Placed
pub mod Ahead
pub mod Limits
pub mod Going
pub mod Gone
pub mod Looking
pub mod Passing
pub mod Counting
