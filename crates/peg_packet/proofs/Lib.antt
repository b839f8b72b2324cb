pub mod Maybe
pub mod Putting
pub mod Posting
pub mod Fitting
pub mod Walking
pub mod Writing
