pub mod Faults
pub mod Telling
pub mod Memory
pub mod Adapters
