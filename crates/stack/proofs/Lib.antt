pub mod Adding
pub mod Stacks
pub mod Pushing
