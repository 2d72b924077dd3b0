pub mod Hub
pub mod Valid
pub mod Agree
pub mod Secret
pub mod Replies
pub mod Witness
pub mod Untouched
pub mod Tails
