pub mod Exact
pub mod Reading
pub mod Fixed
