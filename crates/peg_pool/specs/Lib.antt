pub mod Block
pub mod Flight
pub mod Held
pub mod Ownership
pub mod Places
pub mod Sent
pub mod Slots
