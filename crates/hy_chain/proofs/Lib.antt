pub mod Steps
pub mod Views
pub mod Shrinking
pub mod Stamps
pub mod Linking
pub mod Edits
pub mod Spares
pub mod Settlings
