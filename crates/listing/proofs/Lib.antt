pub mod Drives
pub mod Entries
pub mod Listing
