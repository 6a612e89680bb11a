pub mod Replaying
pub mod Commits
pub mod Readers
pub mod Keeping
pub mod Prefixes
pub mod Points
pub mod Circles
pub mod Naming
