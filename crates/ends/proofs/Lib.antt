pub mod Place
pub mod Merging
pub mod Areas
pub mod Turns
