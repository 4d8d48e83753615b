pub mod fields
pub mod state
pub mod values
