pub mod Placing
pub mod Sending
pub mod Kept
pub mod Stepping
pub mod Planning
pub mod Nodes
