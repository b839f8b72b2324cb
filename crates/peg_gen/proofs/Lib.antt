pub mod Table
mod Weights
