pub mod Tree
pub mod Numbers
pub mod Erased
