pub mod Grammar
pub mod Date
pub mod Text
pub mod Scan
pub mod Reading
pub mod Fixed
pub mod laws
