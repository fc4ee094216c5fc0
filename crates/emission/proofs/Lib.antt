pub mod secondwalk
pub mod Emitted
pub mod Refinement
