pub mod Ending
pub mod Passing
