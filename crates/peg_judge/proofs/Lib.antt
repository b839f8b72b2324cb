pub mod Behind
pub mod Lines
pub mod Stepping
pub mod Verdicts
