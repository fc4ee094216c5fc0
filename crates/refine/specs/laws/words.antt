pub mod Places
pub mod SearchTree
pub mod Kinds
