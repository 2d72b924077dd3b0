pub mod Telling
pub mod Joining
pub mod Unique
