pub mod Identity
pub mod Bytes
pub mod Slots
