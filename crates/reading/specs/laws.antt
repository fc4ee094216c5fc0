pub mod Progress
pub mod Readers
pub mod Loops
pub mod Leaf
pub mod Quick
pub mod Runs
pub mod Sound
