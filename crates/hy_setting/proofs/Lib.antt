pub mod CatalogTypes
pub mod ValueTypes
pub mod FormulaTypes
pub mod StatementTypes
pub mod BoundTypes
pub mod QuotedTexts
pub mod StatementTexts
pub mod Tokens
