pub mod Fields
pub mod Walk
pub mod Neat
pub mod Writing
pub mod Words
pub mod Children
