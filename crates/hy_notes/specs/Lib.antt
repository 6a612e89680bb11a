pub mod Notes
pub mod Spares
pub mod Blocks
pub mod Levels
pub mod Telling
pub mod InAll
pub mod Noted
pub mod Sound
