pub mod Opening
pub mod laws
