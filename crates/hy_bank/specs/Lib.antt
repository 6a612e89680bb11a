pub mod Fitting
pub mod Bank
pub mod Outcomes
pub mod Endings
