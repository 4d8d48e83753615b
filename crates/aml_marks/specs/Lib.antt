pub mod Marked
pub mod Moving
pub mod Parting
