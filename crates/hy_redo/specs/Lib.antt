pub mod Tables
pub mod Logs
pub mod Recovery
pub mod Errors
pub mod Crashes
pub mod Laws
pub mod Tests
