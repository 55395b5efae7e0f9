-- One order of one program, over the fields of the machine.
pub mod AfterTheTry
pub mod Batching
pub mod Borrowers
pub mod DevicesLeave
pub mod DevicesSettled
pub mod FirstGoesOn
pub mod FlightsMove
pub mod HeardWords
pub mod MomentsKept
pub mod OneOrder
pub mod OrdersTried
pub mod ProgramsRetire
pub mod TurnsKeep
pub mod TurnsShow
pub mod WordsAlike
pub mod YardTurns
