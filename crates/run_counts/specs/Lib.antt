pub mod Runs
pub mod Census
