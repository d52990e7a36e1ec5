pub mod State
pub mod One
