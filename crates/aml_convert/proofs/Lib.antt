pub mod DigitLoops
pub mod Respelling
pub mod SetBits
