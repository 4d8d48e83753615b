pub mod Machine
pub mod Unwinding
pub mod Answering
pub mod LoopTurns
