pub mod Orders
pub mod Visits
pub mod Fits
pub mod Wholes
