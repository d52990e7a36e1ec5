pub mod Dictionary
pub mod Links
