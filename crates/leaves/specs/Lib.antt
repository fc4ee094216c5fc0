pub mod Marks
pub mod Leaves
pub mod Quick
pub mod laws
