pub mod Numbers
pub mod Cells
pub mod Columns
pub mod Rows
pub mod Compared
