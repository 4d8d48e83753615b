pub mod Ascending
pub mod Filled
pub mod Turns
