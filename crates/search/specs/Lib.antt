pub mod Search
pub mod Scan
pub mod Tree
pub mod Child
pub mod laws
