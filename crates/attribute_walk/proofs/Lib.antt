pub mod Groups
pub mod Short
pub mod Halves
pub mod Walks
