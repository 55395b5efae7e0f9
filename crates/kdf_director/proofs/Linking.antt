-- The machine is linked with its journal, before and after each order and each event.
pub mod AfterEvents
pub mod EventsEntered
pub mod EventsFollowed
pub mod FieldsShow
pub mod Halted
pub mod HoldersChange
pub mod JudgedAlike
pub mod MachineLends
pub mod NextPrograms
pub mod OrdersEntered
pub mod OrdersFollowed
pub mod OwnDevices
pub mod OwnStates
pub mod TransfersLinked
pub mod TurnTaken
pub mod YardEntered
