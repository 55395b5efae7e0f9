pub mod LonePort
pub mod LonePlaces
pub mod Program
pub mod Stints
pub mod Worked
