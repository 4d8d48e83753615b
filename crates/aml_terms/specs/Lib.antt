pub mod AtTree
pub mod Copying
pub mod ShortTerms
pub mod Spots
