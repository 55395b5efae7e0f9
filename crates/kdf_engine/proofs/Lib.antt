pub mod Called
pub mod More
pub mod Due
pub mod Handed
pub mod Told
pub mod Limbs
pub mod Halves
