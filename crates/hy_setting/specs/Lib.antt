pub mod Kinds
pub mod Typing
pub mod Texts
