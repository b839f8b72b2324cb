pub mod Rows
pub mod Fits
pub mod State
pub mod Collecting
