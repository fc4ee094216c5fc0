pub mod Name
pub mod Utf8
pub mod Ascii
pub mod Decimal
pub mod Unicode
