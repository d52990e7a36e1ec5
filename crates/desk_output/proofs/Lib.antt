pub mod Names
pub mod Printing
