mod Terms
mod Growth
mod Running
mod Progress
