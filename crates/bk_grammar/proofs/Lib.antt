mod Terms
mod Steps
mod Begin
mod Complete
mod Before
mod Lists
mod Moves
mod Sound
mod StepsSound
mod Fits
mod Fitting
mod SameTags
pub mod Lemmas
