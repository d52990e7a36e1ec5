pub mod Joining
pub mod Patterns
