pub mod Fronts
pub mod Patterns
