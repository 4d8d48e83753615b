pub mod Claims
pub mod Valid
pub mod Shared
pub mod Flaws
pub mod Claimed
pub mod Ascending
