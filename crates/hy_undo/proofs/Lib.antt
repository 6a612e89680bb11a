pub mod Others
pub mod Putting
pub mod MergedLists
pub mod NotedLists
pub mod Stocks
pub mod Stepping
