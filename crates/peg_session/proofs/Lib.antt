pub mod Passing
pub mod Carrying
pub mod Standings
pub mod Alike
