pub mod Runs
pub mod Starts
pub mod WholeCopies
pub mod Scanning
pub mod Samples
