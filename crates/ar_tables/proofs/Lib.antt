pub mod ImageRuns
pub mod Turns
pub mod Overrides
pub mod Structures
pub mod TableBytes
pub mod Conditions
