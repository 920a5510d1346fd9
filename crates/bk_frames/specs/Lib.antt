pub mod Sizes
pub mod Unfinished
pub mod Stacked
pub mod Frames
pub mod Completing
pub mod Bounds
pub mod Budgets
pub mod Spares
