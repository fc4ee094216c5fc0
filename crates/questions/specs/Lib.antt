pub mod Question
pub mod Numbers
pub mod Left
pub mod laws
