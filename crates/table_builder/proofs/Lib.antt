pub mod Laws
pub mod Clear
pub mod Grown
pub mod AsList
pub mod Unique
