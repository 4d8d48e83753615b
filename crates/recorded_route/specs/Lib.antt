pub mod Runs
pub mod Triggers
pub mod Pins
pub mod Evaluations
pub mod Endings
