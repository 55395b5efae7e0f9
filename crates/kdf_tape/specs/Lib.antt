pub mod Blocks
pub mod Examples
pub mod Sharing
pub mod Tape
