mod Placed
mod Added
