pub mod Contents
pub mod Copies
pub mod Fields
pub mod Methods
pub mod Objects
