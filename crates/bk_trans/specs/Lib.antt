-- The scheme, from the tree of a section to its statements: read in this order.
pub mod Program
pub mod Naming
pub mod Filling
pub mod Labels
pub mod Depths
pub mod Parts
pub mod Scheme
pub mod Laws
pub mod Writing
pub mod Codes
pub mod Alike
pub mod Fitting
