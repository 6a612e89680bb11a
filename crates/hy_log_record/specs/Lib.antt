pub mod Bytes
pub mod Bodies
pub mod Reading
pub mod Laws
