pub mod Chains
pub mod Pruning
pub mod Histories
pub mod Links
pub mod Settling
pub mod Spares
