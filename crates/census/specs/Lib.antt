pub mod Accepted
pub mod Samples
pub mod Counts
