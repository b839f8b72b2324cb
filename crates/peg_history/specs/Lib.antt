pub mod Entries
pub mod Ledger
pub mod Groups
pub mod Contents
pub mod Rows
pub mod Walking
