pub mod Found
pub mod Searching
