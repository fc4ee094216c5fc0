pub mod Samples
pub mod laws
