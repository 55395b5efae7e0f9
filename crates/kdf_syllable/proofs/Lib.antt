pub mod Bytes
pub mod Digits
pub mod Reading
pub mod Sizes
