mod BeforeEnd
pub mod Counts
pub mod Exclusive
pub mod Gathering
pub mod Listed
pub mod Offering
pub mod Splitting
pub mod ReadsBack
pub mod Members
pub mod Spelling
