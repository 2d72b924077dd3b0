pub mod Admitting
pub mod Moving
pub mod Processing
pub mod Unique
pub mod Valid
pub mod Fitting
