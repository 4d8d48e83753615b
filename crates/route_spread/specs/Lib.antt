pub mod Sharing
pub mod Marks
pub mod Assignments
pub mod InMemory
pub mod Improving
