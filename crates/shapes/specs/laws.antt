pub mod Bytes
pub mod Shapes
pub mod Field
pub mod Leaf
