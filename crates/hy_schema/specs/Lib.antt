pub mod Names
pub mod Indexes
