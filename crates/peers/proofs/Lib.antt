pub mod Laws
pub mod Changes
pub mod Identities
pub mod Moves
pub mod Numbers
pub mod Rows
