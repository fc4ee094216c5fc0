pub mod Levels
pub mod laws
