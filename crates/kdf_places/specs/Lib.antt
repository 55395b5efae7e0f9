pub mod Shared
pub mod Spots
pub mod Transfers
pub mod Words
