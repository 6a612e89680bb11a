pub mod Orders
pub mod Prefixes
pub mod Edits
pub mod Membership
pub mod Mapped
pub mod Apart
pub mod Parting
