pub mod Filling
pub mod Metering
pub mod MissingPlaces
pub mod NumberedBytes
pub mod Watching
