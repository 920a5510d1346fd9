pub mod Kept
pub mod Page
