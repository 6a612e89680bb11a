pub mod Dump
pub mod Writable
pub mod ReadBack
