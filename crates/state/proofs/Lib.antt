pub mod Rules
pub mod Lengths
