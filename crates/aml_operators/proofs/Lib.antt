pub mod Matching
pub mod WideSteps
