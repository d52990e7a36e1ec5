pub mod Scanning
pub mod Listing
