pub mod Locating
pub mod Answering
