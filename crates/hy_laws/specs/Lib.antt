pub mod Bags
pub mod Gathered
pub mod CellShown
pub mod Lookups
pub mod Turns
pub mod LookupEnds
pub mod Wanted
