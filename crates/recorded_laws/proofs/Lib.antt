mod PlainReports
mod TellingTogether
mod BusesTold
mod Parting
mod Running
mod Following
mod Meeting
mod Laws
mod Growing
mod CleanTables
mod CleanTexts
mod RunsTold
mod CleanReports
mod Streamless
mod StreamlessAnswers
pub mod StreamsTold
pub mod StreamLines
pub mod RunsWidened
pub mod TextsWidened
pub mod Bounding
pub mod Watching
mod SameMachine
mod SameRun
pub mod NamesShown
