pub mod reading
pub mod numbered
pub mod words
