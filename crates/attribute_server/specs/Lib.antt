pub mod Connection
pub mod Request
pub mod Value
pub mod Subscription
pub mod Table
