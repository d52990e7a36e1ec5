pub mod Scanning
pub mod Noting
