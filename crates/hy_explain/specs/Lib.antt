pub mod Words
pub mod Conditions
pub mod Reads
pub mod Found
pub mod Choosing
pub mod Behind
pub mod Explained
pub mod Truth
