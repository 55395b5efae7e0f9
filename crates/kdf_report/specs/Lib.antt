pub mod Devices
pub mod Examples
pub mod Loaded
pub mod MadeFrom
pub mod Summary
pub mod Text
pub mod Worlds
