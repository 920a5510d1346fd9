pub mod Statuses
pub mod Checking
pub mod Showing
pub mod Tracing
pub mod Serving
pub mod CommandLine
