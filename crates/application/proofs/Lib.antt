pub mod Calls
pub mod Peers
pub mod Leaving
pub mod Valid
