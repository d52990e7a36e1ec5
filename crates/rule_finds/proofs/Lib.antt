pub mod Standing
pub mod Short
pub mod Counting
