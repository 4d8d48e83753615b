pub mod Reading
pub mod RowPlaces
pub mod RowsAt
pub mod Scanned
pub mod Spelling
