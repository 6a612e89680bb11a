pub mod Keyword
pub mod Lengths
pub mod Letters
pub mod Sign
pub mod Token
pub mod Spellings
