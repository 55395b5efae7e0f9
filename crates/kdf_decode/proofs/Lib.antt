pub mod First
pub mod Inverse
pub mod Spelt
