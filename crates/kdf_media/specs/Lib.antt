pub mod Examples
pub mod Media
pub mod PackedCards
