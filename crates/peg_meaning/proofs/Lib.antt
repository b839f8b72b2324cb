pub mod Keeping
pub mod PlayedIs
pub mod PlayedOn
pub mod Weaving
pub mod LinesAlone
