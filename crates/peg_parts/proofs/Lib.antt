pub mod Lists
pub mod Sealing
pub mod Reading
pub mod Taking
pub mod Switching
pub mod Coming
pub mod Arriving
