mod EnoughSteps
mod Measures
mod Reaching
pub mod OpenOnes
pub mod Clock
pub mod FittedTables
pub mod StepsShown
mod PushedScripts
mod PushedSessions
pub mod PushedShown
pub mod Awaited
pub mod Told
pub mod Standing
pub mod CoresNear
pub mod VisitsLeft
pub mod NeededChunks
pub mod EndedStay
pub mod ChunkMarks
pub mod ChunkStatements
mod RowTypes
mod RowsBack
pub mod NearChunks
mod ChunksPassed
pub mod OutcomesPairs
pub mod OutcomesEnds
pub mod OutcomesTables
pub mod OutcomesShown
pub mod EntryPlaces
pub mod LaidEntries
pub mod RowTexts
pub mod Entries
pub mod ShownOrders
pub mod Recovered
