pub mod State
pub mod Fresh
pub mod Clear
pub mod Valid
pub mod Lent
