-- Calls of the machine, one after the other and many at once.
pub mod CallsAfterCalls
pub mod CallsAtOnce
pub mod CallsInTurn
pub mod FoundLive
pub mod GoingFurther
pub mod Halting
pub mod NoneGoesOn
pub mod OneCall
pub mod OnlyCall
pub mod OrdersPassed
pub mod ProgramGoesOn
