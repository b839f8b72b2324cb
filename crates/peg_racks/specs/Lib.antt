pub mod Worlds
pub mod Tails
pub mod Playing
