pub mod Exchanges
pub mod Recordings
pub mod Deciding
