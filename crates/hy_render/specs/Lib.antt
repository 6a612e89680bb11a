pub mod Report
pub mod Named
pub mod Telling
pub mod Summary
pub mod Digits
