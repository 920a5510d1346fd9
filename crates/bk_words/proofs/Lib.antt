mod Parts
mod Takes
mod NextWord
mod HeldNumbers
