pub mod Commands
pub mod Counted
pub mod Reader
pub mod laws
pub mod Bytes
