pub mod Runs
pub mod laws
