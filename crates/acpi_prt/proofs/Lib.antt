pub mod Entries
pub mod Firsts
pub mod Places
pub mod Rows
pub mod Standing
pub mod Stopped
pub mod Turns
