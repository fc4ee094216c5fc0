pub mod Growth
pub mod laws
