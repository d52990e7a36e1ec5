pub mod Answers
pub mod Writing
