pub mod Ends
pub mod Explaining
pub mod Halting
pub mod LinkLines
pub mod Refused
pub mod Stages
pub mod Told
