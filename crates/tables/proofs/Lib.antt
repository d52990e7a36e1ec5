pub mod Loading
pub mod Marks
