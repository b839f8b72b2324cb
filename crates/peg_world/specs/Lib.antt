pub mod Acting
pub mod Sound
pub mod Midway
pub mod Machine
pub mod Notes
pub mod Telling
pub mod Running
