pub mod Patches
pub mod Rooms
pub mod Free
pub mod Pools
pub mod Flights
pub mod Memory
pub mod Sharing
