pub mod Seen
pub mod Shapes
pub mod Outbox
pub mod Puts
pub mod Posted
pub mod Family
pub mod Nodes
