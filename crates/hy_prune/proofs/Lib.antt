pub mod Leaving
pub mod Counting
