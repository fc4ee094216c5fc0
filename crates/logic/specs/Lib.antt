pub mod Test
pub mod Buffer
pub mod Maybe
pub mod All
pub mod Turns
pub mod Slices
pub mod laws
