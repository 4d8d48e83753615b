pub mod Listed
pub mod Grown
pub mod RunNotes
pub mod StreamsTold
pub mod Widened
pub mod Unwatched
pub mod NamesShown
