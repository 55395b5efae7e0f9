pub mod Spelling
pub mod Packing
