pub mod Links
pub mod Avoided
pub mod Routing
pub mod Placement
pub mod Bound
