-- What a journal tells of the programs, and what its steps make of that.
pub mod HoldsInside
pub mod OthersStay
pub mod Rows
pub mod UnservedMachines
pub mod WorkedFlights
pub mod WorkedPools
pub mod WorkedSlots
pub mod WorkedSwaps
