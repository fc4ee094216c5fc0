pub mod Texts
pub mod Names
pub mod Joints
