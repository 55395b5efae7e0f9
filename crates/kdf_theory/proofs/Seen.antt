-- What is seen of a program while its transfers are in flight, over its state by itself.
pub mod ClaimsStay
pub mod EffectsChecked
pub mod FlightsStay
pub mod NeedsInside
pub mod NoneInFlight
pub mod OrdersSeen
pub mod SeenStates
pub mod TransfersChecked
pub mod TransfersEnd
pub mod WholeTransfers
pub mod WordsMove
