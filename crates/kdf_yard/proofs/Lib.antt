pub mod Loading
pub mod Physical
pub mod Turns
