pub mod Calls
pub mod CodedTerms
pub mod Copied
pub mod CopiedParts
pub mod Elses
pub mod FieldElements
pub mod InOrder
pub mod Named
pub mod Parsed
pub mod ShortTerms
mod MovingOn
