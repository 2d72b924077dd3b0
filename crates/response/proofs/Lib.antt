pub mod Errors
