pub mod Stepping
pub mod Printing
