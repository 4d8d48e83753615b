pub mod Entries
mod Runs
mod Stops
