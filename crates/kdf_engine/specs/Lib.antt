pub mod Words
pub mod Service
pub mod Answered
pub mod Told
pub mod Wide
