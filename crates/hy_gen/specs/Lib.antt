pub mod Draws
pub mod Accounts
pub mod Transactions
pub mod Made
