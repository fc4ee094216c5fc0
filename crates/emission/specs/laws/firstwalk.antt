pub mod Children
pub mod Places
pub mod Sums
pub mod Walk
