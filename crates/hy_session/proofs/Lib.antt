mod OpenSavepoints
mod Savings
mod RangeSeeks
mod WrittenChunks
mod Endings
mod VisitNumbers
mod WorkingSessions
pub mod SelectPlans
pub mod SelectVisits
pub mod SelectSteps
pub mod PresentSelects
mod VisitTurns
mod WriteVisits
mod BackVisits
mod StatementVisits
mod Results
mod Dispatch
mod ShortChains
mod OpenVisits
mod PassedChunks
mod SparedChunks
mod ReadChunks
mod GoneSessions
mod KeptPlans
mod OrderedPlaces
mod NotedSeeks
mod OrderedNotes
mod NextChunks
mod GrownScripts
pub mod OtherTables
