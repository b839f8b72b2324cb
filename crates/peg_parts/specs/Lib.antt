pub mod Sealed
pub mod Taking
pub mod Reading
pub mod Collecting
pub mod Switching
pub mod Arrivals
