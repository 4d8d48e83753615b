pub mod Addressing
pub mod BankUnits
pub mod BankSteps
pub mod Bridging
pub mod Entering
pub mod Arguments
pub mod UnitSteps
