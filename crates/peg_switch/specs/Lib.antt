pub mod Seen
pub mod Kept
pub mod Modes
pub mod Choices
