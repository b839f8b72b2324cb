pub mod InOrder
pub mod Stepping
