pub mod Arities
pub mod Counts
pub mod PathTree
