pub mod Tree
pub mod Parts
pub mod Limits
pub mod Section
pub mod Position
pub mod Placed
