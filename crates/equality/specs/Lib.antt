pub mod Demand3
pub mod Widened
pub mod laws
