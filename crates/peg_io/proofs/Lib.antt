pub mod Telling
pub mod LineLemmas
pub mod Reading
