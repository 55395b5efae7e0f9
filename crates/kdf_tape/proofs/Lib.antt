pub mod Codes
pub mod Passing
