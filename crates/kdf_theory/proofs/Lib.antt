pub mod Corollaries
pub mod Course
pub mod GoingOn
pub mod JobsLoaded
pub mod Lists
pub mod Results
pub mod Seen
