pub mod Views
pub mod Memories
pub mod Texts
