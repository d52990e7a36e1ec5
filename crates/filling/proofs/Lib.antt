pub mod Copies
pub mod Areas
pub mod Rules
