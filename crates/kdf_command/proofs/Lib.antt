pub mod Values
pub mod TwoValues
pub mod Hyphens
pub mod NamedCommands
pub mod Watches
