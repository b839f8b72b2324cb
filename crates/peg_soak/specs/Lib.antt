pub mod Soaked
