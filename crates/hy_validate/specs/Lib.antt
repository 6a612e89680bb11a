pub mod Hits
pub mod Statements
pub mod FirstConditions
pub mod Groups
pub mod Keys
pub mod Filed
pub mod TreeHits
