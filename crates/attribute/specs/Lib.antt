pub mod Record
pub mod Lookup
pub mod Needs
pub mod Rules
