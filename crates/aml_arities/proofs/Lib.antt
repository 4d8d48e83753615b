pub mod PathTrees
pub mod Counted
pub mod Deepest
