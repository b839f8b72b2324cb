pub mod Drawn
pub mod Played
pub mod SixLines
pub mod Ends
pub mod Counted
