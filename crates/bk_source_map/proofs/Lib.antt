mod Counted
mod Apart
mod PlacedAll
mod Steps
