pub mod BelowPaths
mod Bridged
pub mod DownToBuses
pub mod Loaded
pub mod Noticed
pub mod Passing
pub mod Spaces
pub mod Stopping
pub mod Walked
pub mod Whole
