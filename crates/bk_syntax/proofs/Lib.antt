mod Terms
mod Applies
mod Tags
mod Rows
mod Exact
mod Openings
mod Following
mod Unfinished
mod Reported
mod Onward
mod Operands
mod Attaining
mod Attained
pub mod Lemmas
