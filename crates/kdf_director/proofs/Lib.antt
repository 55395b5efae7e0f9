pub mod Calls
pub mod Course
pub mod Linking
pub mod Loading
