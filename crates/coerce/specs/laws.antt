pub mod Rules
pub mod Joined
pub mod Sets
pub mod Examples
