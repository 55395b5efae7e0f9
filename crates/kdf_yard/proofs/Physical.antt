-- The groups and leases of the store, the places of the devices, and what is shown of them to one program.
pub mod AreaTexts
pub mod DeviceNumbers
pub mod DevicesGivenBack
pub mod FirstFound
pub mod FreeDevices
pub mod GroupsComeBack
pub mod GroupsKept
pub mod OrdersAct
pub mod PartsAlike
pub mod PartsShow
pub mod PlacesAlike
pub mod PoolDevices
pub mod ShiftedRanges
pub mod StintsChange
pub mod StintsShown
pub mod TransfersBegin
pub mod WordsLand
