pub mod Tallying
pub mod Listed
pub mod Stepping
pub mod Printing
