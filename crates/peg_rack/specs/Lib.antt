pub mod Racking
