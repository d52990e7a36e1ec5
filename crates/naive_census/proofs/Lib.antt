pub mod Distinct
pub mod Standing
