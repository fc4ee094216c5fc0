pub mod laws
pub mod Emits
