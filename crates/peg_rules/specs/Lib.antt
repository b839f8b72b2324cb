pub mod Started
pub mod Going
pub mod Choices
