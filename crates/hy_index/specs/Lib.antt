pub mod Entries
pub mod Indexed
pub mod Keyed
pub mod Kinds
pub mod Members
pub mod Parts
pub mod Positions
