pub mod Service
pub mod Sound
pub mod Knowing
pub mod Logging
pub mod Serves
pub mod Loops
pub mod Laws
