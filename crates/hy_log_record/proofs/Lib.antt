pub mod Fields
pub mod Loops
pub mod PushedBytes
pub mod Rows
pub mod Entries
pub mod Records
