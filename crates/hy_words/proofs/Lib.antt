pub mod Added
pub mod Readings
pub mod Taken
