pub mod Layout
pub mod Nullable
pub mod Places
pub mod Reading
pub mod Children
pub mod laws
