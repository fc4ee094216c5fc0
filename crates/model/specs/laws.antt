pub mod Examples
pub mod Sounded
pub mod Unmarked
