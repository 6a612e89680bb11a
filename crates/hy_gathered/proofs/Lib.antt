pub mod Piled
pub mod Placed
pub mod Summed
mod Tallied
mod Grouped
mod Merged
mod Shared
mod RowGroups
mod GroupsMade
mod GroupsGathered
mod GroupsRecorded
mod Halves
