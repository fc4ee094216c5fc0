pub mod Steps
pub mod Shapes
pub mod Leaf
pub mod Field
pub mod laws
