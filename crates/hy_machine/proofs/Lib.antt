pub mod Falls
pub mod Marks
pub mod Reached
pub mod Ends
