pub mod Putting
pub mod Owning
pub mod Writing
pub mod Tables
pub mod Valid
pub mod Shared
