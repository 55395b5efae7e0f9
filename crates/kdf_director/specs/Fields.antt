-- The fields of a machine, and how they agree with its journal.
pub mod Agrees
pub mod Following
pub mod Halted
pub mod Machines
pub mod TurnTaken
pub mod Viewed
