mod Terms
mod Begun
mod Bound
mod Counted
mod Listed
mod Packed
