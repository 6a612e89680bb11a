pub mod Fates
pub mod Groups
pub mod Cases
pub mod OpenStarts
