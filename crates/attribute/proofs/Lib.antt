pub mod Reading
pub mod Entries
pub mod Shape
pub mod Kept
