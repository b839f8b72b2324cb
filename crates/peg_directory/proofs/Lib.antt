pub mod Places
pub mod Kept
pub mod Changed
pub mod Moving
pub mod Refilled
