pub mod Missed
pub mod Lookups
pub mod Products
pub mod Query
pub mod Selected
pub mod Joined
pub mod Single
pub mod Unseen
pub mod Again
pub mod Bags
pub mod BagReads
pub mod BagMeanings
pub mod Gathered
pub mod CellShows
pub mod CellColumns
mod Keys
mod Spread
mod AsRead
mod Restricted
mod LookedUp
mod InTurn
mod Ended
