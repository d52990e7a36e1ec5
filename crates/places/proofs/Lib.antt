pub mod Strings
pub mod Rules
pub mod Sizes
pub mod Starts
