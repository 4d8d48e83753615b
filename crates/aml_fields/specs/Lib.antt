pub mod Bits
pub mod BufferFields
pub mod Covering
pub mod Regions
pub mod SpaceBits
pub mod UnitByUnit
pub mod Units
