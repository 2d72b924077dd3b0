pub mod Fits
pub mod Slot
