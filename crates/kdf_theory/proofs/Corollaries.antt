-- What follows of the lemmas on journals and lone runs.
pub mod BusyDevices
pub mod NoneAsked
pub mod StintsHeld
