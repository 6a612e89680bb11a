pub mod Steps
pub mod Names
