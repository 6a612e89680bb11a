pub mod Lines
pub mod Settings
pub mod Program
pub mod Reports
pub mod Naming
pub mod Telling
pub mod Typing
pub mod Served
