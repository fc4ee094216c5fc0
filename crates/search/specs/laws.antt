pub mod Child
pub mod Tree
pub mod Search
pub mod Scan
