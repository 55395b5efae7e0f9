-- What is loaded, and the machine before its first order.
pub mod DevicesByNumber
pub mod ImagesLoaded
pub mod LoadedMachine
pub mod OneMoreLoaded
pub mod PlacesLoaded
pub mod SizesLoaded
pub mod StoreFilled
