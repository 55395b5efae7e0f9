pub mod Arith
pub mod Digits
pub mod Examples
pub mod Outcome
pub mod Rows
pub mod Shifts
pub mod Signs
