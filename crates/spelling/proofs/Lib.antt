pub mod Spelling
pub mod Texts
