pub mod Size
pub mod Putting
pub mod Unique
pub mod Document
