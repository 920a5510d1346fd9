mod Terms
mod Memories
mod Texts
