pub mod Sorting
pub mod Sorted
pub mod Places
pub mod Batches
pub mod Walk
