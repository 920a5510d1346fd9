mod Counts
mod Trees
mod Copies
pub mod Lemmas
