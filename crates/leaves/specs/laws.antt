pub mod Marks
pub mod Leaves
pub mod Quick
