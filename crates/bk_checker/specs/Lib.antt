pub mod Limits
pub mod Checks
pub mod Reports
