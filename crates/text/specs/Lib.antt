pub mod Name
pub mod Tag
pub mod Utf8
pub mod Block
pub mod Due
pub mod Decimal
pub mod laws
