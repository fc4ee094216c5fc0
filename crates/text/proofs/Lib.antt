pub mod Library
pub mod Steps
pub mod Blocks
pub mod Begins
pub mod Ascii
pub mod Chunks
