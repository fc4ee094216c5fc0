pub mod Records
pub mod Tally
pub mod Replayed
pub mod laws
