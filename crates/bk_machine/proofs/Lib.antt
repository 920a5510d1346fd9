mod Terms
mod Blaming
mod Bytes
mod Formats
mod Growing
mod Places
mod Reaching
mod Routines
mod RunSteps
mod KeptSteps
mod Settings
mod TellSteps
pub mod Lemmas
