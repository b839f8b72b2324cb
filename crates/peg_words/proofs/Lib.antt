pub mod Parsed
pub mod Decimals
pub mod Counts
pub mod Hyphens
pub mod RackNumbers
