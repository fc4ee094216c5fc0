pub mod Zeroed
pub mod There
