pub mod Runs
pub mod Isolated
pub mod Divided
pub mod Homes
pub mod Lightest
pub mod Fair
pub mod Recorded
pub mod Judged
