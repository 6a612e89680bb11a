pub mod ListsAt
pub mod LaidChunks
pub mod OpenedWorlds
pub mod Widths
pub mod ReadBack
pub mod OutcomesRead
mod SentSessions
mod GroupedVisits
mod GroupedWorlds
mod Parts
mod Visits
mod KeptWorlds
pub mod PassedChunks
mod WorldFields
mod RunsLeft
mod Loops
mod Runs
pub mod Growing
pub mod Logs
mod Orders
mod SomeSchedules
pub mod SharedWorlds
pub mod VisitsLeave
mod BlockedSteps
pub mod TableKinds
pub mod Pushes
