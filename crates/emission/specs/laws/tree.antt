pub mod Fit
pub mod Cover
