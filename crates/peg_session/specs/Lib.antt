pub mod Pages
pub mod Took
pub mod Ends
pub mod Standing
pub mod Alike
