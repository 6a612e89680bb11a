-- The definitions of an engine of counters.
pub mod Counting
