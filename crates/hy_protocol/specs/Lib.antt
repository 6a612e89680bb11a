pub mod Turns
pub mod Asking
pub mod Statements
pub mod Closing
pub mod Sessions
