pub mod Agree
pub mod AgreeFields
mod AgreeItems
pub mod AgreeTerms
pub mod Exports
pub mod Loops
pub mod Meanings
pub mod Runs
pub mod TargetKinds
