pub mod Types
pub mod order
pub mod firstwalk
pub mod secondwalk
pub mod tree
