pub mod Bytes
pub mod Calls
pub mod Memory
pub mod Replay
pub mod Ranges
pub mod Images
pub mod Offered
