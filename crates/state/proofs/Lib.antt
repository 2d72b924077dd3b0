pub mod Sizes
pub mod Laying
pub mod Each
pub mod Testing
pub mod Answers
pub mod Keeping
pub mod Calls
pub mod Unique
