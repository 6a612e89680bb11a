pub mod Lines
pub mod Saying
pub mod Answers
pub mod Suiting
pub mod Fitting
