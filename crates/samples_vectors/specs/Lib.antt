pub mod Made
pub mod Batches
