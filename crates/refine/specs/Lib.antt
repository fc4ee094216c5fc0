pub mod Tree
pub mod laws
