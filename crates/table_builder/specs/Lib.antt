pub mod Push
pub mod AsList
