pub mod CardWords
pub mod Ends
pub mod PackedCards
pub mod Runs
pub mod Stopped
pub mod Whole
