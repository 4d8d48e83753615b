pub mod TermOperands
