pub mod Forwards
pub mod Steps
pub mod Collecting
pub mod Lasting
pub mod Counting
pub mod Allowing
