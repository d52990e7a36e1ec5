pub mod Stepping
pub mod Clearing
