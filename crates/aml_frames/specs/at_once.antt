pub mod Known
pub mod ShortNames
pub mod ShortTerms
