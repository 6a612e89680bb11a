pub mod Steps
pub mod Standing
pub mod Trace
pub mod Traced
pub mod Examples
