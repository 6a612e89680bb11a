pub mod Blanks
pub mod ByShape
pub mod Progress
pub mod RunSteps
pub mod Texts
pub mod FirstTwo
pub mod WordBytes
pub mod Letters
