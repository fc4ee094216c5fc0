pub mod Codes
pub mod laws
