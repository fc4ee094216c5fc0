pub mod reading
pub mod words
pub mod Outcome
pub mod Refinement
