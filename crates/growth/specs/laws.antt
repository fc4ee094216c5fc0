pub mod Growth
pub mod Siblings
