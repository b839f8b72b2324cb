pub mod Serving
pub mod Served
pub mod Phases
pub mod Asks
pub mod Askers
pub mod Calls
pub mod Consoles
