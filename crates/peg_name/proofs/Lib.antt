pub mod Padding
pub mod Servers
pub mod Sameness
pub mod Padded
pub mod SameServers
