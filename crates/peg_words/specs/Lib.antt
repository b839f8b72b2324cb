pub mod Jobs
pub mod Arguments
