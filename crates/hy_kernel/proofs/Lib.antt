pub mod Joining
pub mod Gathered
pub mod Packs
pub mod Listed
pub mod Lowest
mod Lanes
