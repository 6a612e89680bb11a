pub mod Journaled
pub mod Core
