pub mod Steps
pub mod Reports
