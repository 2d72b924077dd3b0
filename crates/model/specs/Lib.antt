pub mod Value
pub mod View
pub mod Run
pub mod Rows
pub mod Answer
pub mod Told
pub mod Change
