pub mod Bridges
pub mod BufferFields
pub mod FieldLayouts
pub mod Fields
pub mod PciFunctions
pub mod PlainRegions
pub mod Regions
