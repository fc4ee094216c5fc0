pub mod Layout
pub mod Nullable
pub mod Reading
