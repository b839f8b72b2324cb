pub mod Fits
pub mod Waits
