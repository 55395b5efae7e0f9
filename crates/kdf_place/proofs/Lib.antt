mod Grown
mod Said
mod Stable
mod Firsts
mod Piecewise
mod Assembled
mod Thinned
pub mod Lengths
pub mod Packed
mod Listed
mod Settled
mod Walks
mod Syllables
mod Untouched
mod Meant
mod Stores
mod Laid
mod LaidOut
