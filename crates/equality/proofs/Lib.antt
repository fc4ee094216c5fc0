pub mod Canon
pub mod Equal
pub mod Demand3
pub mod Widened
