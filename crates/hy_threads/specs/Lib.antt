pub mod Visits
pub mod Shares
pub mod Tasks
pub mod Laws
pub mod Knowledge
pub mod Rule
pub mod Seats
