pub mod Given
pub mod MachineText
pub mod Words
